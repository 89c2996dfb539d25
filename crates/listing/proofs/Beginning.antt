-- The lines before the one at which a text is wrong: the text has them, and they begin a right listing. Assumes nothing.
use Prim.Native.Nat.{ℕ, suc, ◌+◌, ◌-◌, ◌≤◌}
use mathlib.Core.Path.{◌≡◌, refl, sym, ap, ◌∙◌}
use mathlib.Core.List.{List, [], ◌++◌}
use mathlib.Core.Bool.{true}
use native.Mathlib.Omega.{arith}
use lib.ListN.{drop}
use Rattle.text.specs.FirstLines.{first_lines, line_count}
use Rattle.text.specs.Line.{Row}
use Rattle.text.proofs.SameLines.{Alike, alike_linewise, alike_none, first_then, Counted, counted_start, counted_linewise, counted_enough}
use Rattle.listing.specs.Lines.{head_row}
use Rattle.listing.specs.Listing.{Cells, Entries, Dos, wrong}
use Rattle.listing.specs.First.{text_in, IsListing, Begins}
use Rattle.listing.proofs.LineKinds.{head_kind, line_same, line_walks}
use Rattle.listing.proofs.Stages.{Before, Through, lines_in, text_no_head, text_no_size, text_no_core, text_no_end, text_right, right_not_wrong, same_line, Outcome, no_head, no_size, no_core, no_end, all_right, outcome}
use Rattle.listing.proofs.Alongside.{before_walks, before_same, through_walks, through_same}
use Rattle.listing.proofs.Completions.{head_text, size_text, core_text, nothing_left, core_second, core_completes, size_completes, head_completes}
use Rattle.listing.proofs.Deciding.{through_inside}

-- ---- the text has them

module _ (s : List ℕ) where
  head_counted : (head_row s 0).ok ≡ true → 1 ≤ line_count s
  head_counted h = counted_enough (line_walks head_kind (counted_linewise s 1 0) s s 0 (counted_start s 1) h)

  module _ {z : Row} {c : Cells} {r g b : Entries} where
    before_counted : Before s z c r g b → lines_in c r g b ≤ line_count s
    before_counted h =
        let k = lines_in c r g b in
        let all : k + 0 ≡ k = omega arith in
        counted_enough (before_walks (Counted s k) (counted_linewise s k) s s h 0 (rw all (counted_start s k)))

    -- and nothing is left of its lines behind them
    pub through_counted : {q : Row} {d : Dos} → Through s z c r g b q d
        → Counted s (lines_in c r g b + 1 + d.count) 0 (drop d.next s) (drop d.next s)
    through_counted {q} {d} h =
        let k = lines_in c r g b + 1 + d.count in
        let all : lines_in c r g b + suc (d.count + 0) ≡ k = omega arith in
        through_walks (Counted s k) (counted_linewise s k) s s h 0 (rw all (counted_start s k))

-- ---- they begin a right listing

none_begin : (s : List ℕ) → Begins 0 s
unfolding first_lines
none_begin s = (head_text ++ (size_text ++ core_text), head_completes, refl)

module _ (s : List ℕ) where
  -- the first j lines of s, with the text x behind them
  begins_with : (x : List ℕ) (j : ℕ) → j ≤ line_count s → ((t : List ℕ) → Alike x j s t → IsListing t) → Begins j s
  begins_with x j h f =
      let t = first_lines j s ++ x in
      let a = first_then j s x h in
      (t, f t a, sym a.first)

  head_begins : (head_row s 0).ok ≡ true → Begins 1 s
  head_begins h =
      let x = size_text ++ core_text in
      begins_with x 1 (head_counted s h)
      (λ t a.
      let head = line_same head_kind (alike_linewise x 0) s t 0 a in
      let rest = alike_none (line_walks head_kind (alike_linewise x 0) s t 0 a h) in
      size_completes t (ap (λ (r : Row). r.ok) (sym head) ∙ h) (rw (← head) rest))

  module _ {z : Row} {c : Cells} {r g b : Entries} where
    before_begins : Before s z c r g b → Begins (lines_in c r g b) s
    before_begins h =
        let all : lines_in c r g b + 0 ≡ lines_in c r g b = omega arith in
        begins_with core_text (lines_in c r g b) (before_counted s h)
        (λ t a.
        core_completes
        (before_same (Alike core_text) (alike_linewise core_text) s t h 0 (rw all a) (λ _ p left. core_second t p (alike_none left)))
        (alike_none (before_walks (Alike core_text) (alike_linewise core_text) s t h 0 (rw all a))))

    through_begins : {q : Row} {d : Dos} → Through s z c r g b q d → Begins (lines_in c r g b + 1 + d.count) s
    through_begins {q} {d} h =
        let all : lines_in c r g b + suc (d.count + 0) ≡ lines_in c r g b + 1 + d.count = omega arith in
        begins_with [] (lines_in c r g b + 1 + d.count) (counted_enough (through_counted s h))
        (λ t a.
        let same = through_same (Alike []) (alike_linewise []) s t h 0 (rw all a) (λ _ p left. nothing_left t p (alike_none left)) in
        let ended = nothing_left t d.next (alike_none (through_walks (Alike []) (alike_linewise []) s t h 0 (rw all a))) in
        text_right same (omega (arith, ended, through_inside same)))

-- ---- both, of a text that is wrong at line k

pub record LinesBefore (k : ℕ) (s : List ℕ) : Type 0 where
  pub from_one : 1 ≤ k
  pub counted : k - 1 ≤ line_count s
  pub begin : Begins (k - 1) s

behind : (s : List ℕ) (j : ℕ) → j ≤ line_count s → Begins j s → LinesBefore (j + 1) s
behind s j h b =
    let before : j + 1 - 1 ≡ j = omega arith in
    record { from_one = omega arith; counted = omega arith; begin = rw before b }

before_wrong : (s : List ℕ) {k : ℕ} → text_in s ≡ wrong k → Outcome s → LinesBefore k s
before_wrong s e (no_head h) = rw (same_line e (text_no_head s h)) (behind s 0 (omega arith) (none_begin s))
before_wrong s e (no_size h z) = rw (same_line e (text_no_size s h z)) (behind s 1 (head_counted s h) (head_begins s h))
before_wrong s e (no_core z c r g b h q) =
    rw (same_line e (text_no_core h q)) (behind s (lines_in c r g b) (before_counted s h) (before_begins s h))
before_wrong s e (no_end z c r g b q d h f) =
    rw (same_line e (text_no_end h f))
    (behind s (lines_in c r g b + 1 + d.count) (counted_enough (through_counted s h)) (through_begins s h))
before_wrong s e (all_right z c r g b q d h f) = absurd (right_not_wrong (text_right h f) e)

pub lines_before_wrong : {s : List ℕ} {k : ℕ} → text_in s ≡ wrong k → LinesBefore k s
lines_before_wrong {s} e = before_wrong s e (outcome s)
