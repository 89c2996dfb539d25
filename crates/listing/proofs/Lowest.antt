-- Document 01, "The listing": the line at which a text is wrong is the lowest that breaks it. Assumes nothing.
use Prim.Native.Nat.{ℕ, ◌+◌, ◌-◌, ◌≤◌, ◌<◌}
use mathlib.Core.Path.{◌≡◌, refl, ◌∙◌}
use mathlib.Core.List.{List, []}
use native.Mathlib.Omega.{arith}
use lib.ListN.{length, drop}
use lib.Seq.{drop-length}
use borrow.Author.Tests.{le-leb}
use Rattle.text.specs.FirstLines.{first_lines, line_count}
use Rattle.text.proofs.Cases.{below_or_not}
use Rattle.text.proofs.SameLines.{counted_enough, counted_whole, first_more, first_fewer}
use Rattle.listing.specs.Listing.{wrong, listing_in}
use Rattle.listing.specs.First.{text_in, IsListing, LowestWrong}
use Rattle.listing.proofs.Stages.{Outcome, no_head, no_size, no_core, no_end, all_right, outcome, lines_in, text_no_head, text_no_size, text_no_core, text_no_end, right_not_wrong}
use Rattle.listing.proofs.Deciding.{first_lines_decide}
use Rattle.listing.proofs.Beginning.{lines_before_wrong, through_counted}

-- where a text is wrong at line k, that is its lowest wrong line
pub wrong_line : {s : List ℕ} {k : ℕ} → text_in s ≡ wrong k → LowestWrong k s
wrong_line {s} e =
    let before = lines_before_wrong e in
    record {
      from_one = before.from_one;
      lines_before = before.counted;
      begins = before.begin;
      breaks = λ t. right_not_wrong t.1 (first_lines_decide s t.0 e t.2);
    }

-- the same of a text within the bound
pub listing_wrong_line : {s : List ℕ} {k : ℕ} → length s ≤ 65536 → listing_in s ≡ wrong k → LowestWrong k s
unfolding listing_in text_in
listing_wrong_line {s} short e = wrong_line (rw (le-leb (length s) 65536 short) at e)

-- ---- what the lowest wrong line is

-- a text has one at most
not_below : {s : List ℕ} {j k : ℕ} → LowestWrong j s → LowestWrong k s → j < k → ⊥
not_below {s} {j} {k} f g h =
    let t = g.begins in f.breaks (t.0, t.1, first_fewer j (k - 1) t.0 s (omega arith) t.2)

pub lowest_unique : {s : List ℕ} {j k : ℕ} → LowestWrong j s → LowestWrong k s → j ≡ k
lowest_unique {s} {j} {k} f g =
    below_or_not j k
    (λ h. absurd (not_below f g h))
    (λ h. below_or_not k j (λ i. absurd (not_below g f i)) (λ i. omega arith))

-- a right listing has none
pub right_has_none : {s : List ℕ} {k : ℕ} → IsListing s → LowestWrong k s → ⊥
right_has_none {s} h w = w.breaks (s, h, refl)

-- the line after the last: where the text is its lines before line k, they begin a right listing, and are none by themselves
pub line_after_last : {s : List ℕ} {k : ℕ} → LowestWrong k s → first_lines (k - 1) s ≡ s
    → ((t : List ℕ) × IsListing t × (first_lines (k - 1) t ≡ s)) × (IsListing s → ⊥)
line_after_last w e = let t = w.begins in ((t.0, t.1, t.2 ∙ e), λ h. right_has_none h w)

-- ---- a last line without its LF is a line of no right listing: nothing stands behind the last LF of one

whole_lines : (s : List ℕ) → IsListing s → Outcome s → first_lines (line_count s) s ≡ s
whole_lines s l (no_head h) = absurd (right_not_wrong l (text_no_head s h))
whole_lines s l (no_size h z) = absurd (right_not_wrong l (text_no_size s h z))
whole_lines s l (no_core z c r g b h q) = absurd (right_not_wrong l (text_no_core h q))
whole_lines s l (no_end z c r g b q d h f) = absurd (right_not_wrong l (text_no_end h f))
whole_lines s l (all_right z c r g b q d h f) =
    let a = through_counted s h in
    let ended : drop d.next s ≡ [] = rw f (drop-length s) in
    first_more (lines_in c r g b + 1 + d.count) (line_count s) s (counted_enough a) (counted_whole (rw ended at a))

pub right_ends_in_feed : {s : List ℕ} → IsListing s → first_lines (line_count s) s ≡ s
right_ends_in_feed {s} h = whole_lines s h (outcome s)
