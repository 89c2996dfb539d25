-- A line of each kind is a line of its keyword: it moves on, starts with its keyword, and is read by itself. Assumes nothing.
use Prim.Native.Nat.{ℕ, ◌+◌, ◌≤◌, ◌<◌}
use mathlib.Core.Path.{◌≡◌, refl, sym, ap, ◌∙◌}
use mathlib.Core.List.{List, ◌∷◌}
use mathlib.Core.Bool.{Bool, true, false, ◌&&◌, true≢false}
use native.Mathlib.Omega.{arith}
use lib.ListN.{length, drop}
use lib.Dec.{leb, eqb}
use borrow.Author.Tests.{eqb-true}
use Rattle.text.specs.Number.{peek_at}
use Rattle.text.specs.Line.{word_at, row_at, row_within, Row}
use Rattle.text.proofs.Cases.{by_test, and_left, and_right}
use Rattle.text.proofs.Advance.{row_advance}
use Rattle.text.proofs.OneLine.{Linewise, no_feed, row_same, row_end}
use Rattle.listing.specs.Words.{cells_word, size_word, cell_word, right_word, grant_word, byte_word, core_word, do_word}
use Rattle.listing.specs.Lines.{head_row, size_row, cell_row, right_row, grant_row, byte_row, core_row, do_row, right_at, grant_at, byte_at, Entry}
use Rattle.listing.proofs.Rows.{within_ok}

-- where `ok` is told, the row is right and `next` is the place after it
abbrev pub IsRow : (row : Row) (ok : Bool) (next : ℕ) → Type 0
IsRow row ok next = ok ≡ true → (row.ok ≡ true) × (next ≡ row.next)

within_is : (row r : Row) (j least limit : ℕ) → IsRow row r.ok r.next
    → IsRow row (row_within r j least limit).ok (row_within r j least limit).next
within_is row r j least limit f e =
    let q = within_ok r j least limit e in
    let told = f q.0 in
    (told.0, ap (λ (r : Row). r.next) q.1 ∙ told.1)

-- ---- the lines of a kind: `line s p` tells what stands at the place p of s

pub record KindOf {A : Type 0} (ok : A → Bool) (next : A → ℕ) (w : List ℕ) (k : ℕ) (line : List ℕ → ℕ → A) : Type 0 where
  pub plain : no_feed w ≡ true
  pub is_row : (s : List ℕ) (p : ℕ) → IsRow (row_at s p w k) (ok (line s p)) (next (line s p))
  pub by_row : (s t : List ℕ) (p : ℕ) → row_at s p w k ≡ row_at t p w k → line s p ≡ line t p

abbrev pub RowsOf : (w : List ℕ) (k : ℕ) (line : List ℕ → ℕ → Row) → Type 0
RowsOf w k line = KindOf (λ (r : Row). r.ok) (λ (r : Row). r.next) w k line

abbrev pub EntriesOf : (w : List ℕ) (k : ℕ) (line : List ℕ → ℕ → Entry) → Type 0
EntriesOf w k line = KindOf (λ (e : Entry). e.ok) (λ (e : Entry). e.next) w k line

pub head_kind : RowsOf cells_word 1 head_row
unfolding head_row
head_kind =
    record {
      plain = refl;
      is_row = λ s p. let r = row_at s p cells_word 1 in within_is r r 0 1 2 (λ e. (e, refl));
      by_row = λ s t p e. rw e;
    }

pub size_kind : RowsOf size_word 2 size_row
unfolding size_row
size_kind =
    record {
      plain = refl;
      is_row = λ s p.
          let r = row_at s p size_word 2 in
          within_is r (row_within r 0 1 33) 1 0 65537 (within_is r r 0 1 33 (λ e. (e, refl)));
      by_row = λ s t p e. rw e;
    }

pub cell_kind : RowsOf cell_word 4 cell_row
unfolding cell_row
cell_kind =
    record {
      plain = refl;
      is_row = λ s p. let r = row_at s p cell_word 4 in within_is r r 3 0 2 (λ e. (e, refl));
      by_row = λ s t p e. rw e;
    }

pub right_kind : (n m : ℕ) → EntriesOf right_word 3 (right_at n m)
unfolding right_at right_row
right_kind n m =
    record {
      plain = refl;
      is_row = λ s p.
          let r₀ = row_at s p right_word 3 in
          let r₁ = row_within r₀ 0 0 n in
          let r₂ = row_within r₁ 1 0 m in
          within_is r₀ r₂ 2 1 8 (within_is r₀ r₁ 1 0 m (within_is r₀ r₀ 0 0 n (λ e. (e, refl))));
      by_row = λ s t p e. rw e;
    }

pub grant_kind : (n m : ℕ) → EntriesOf grant_word 4 (grant_at n m)
unfolding grant_at grant_row
grant_kind n m =
    record {
      plain = refl;
      is_row = λ s p.
          let r₀ = row_at s p grant_word 4 in
          let r₁ = row_within r₀ 0 0 n in
          let r₂ = row_within r₁ 1 0 m in
          let r₃ = row_within r₂ 2 0 m in
          within_is r₀ r₃ 3 1 8 (within_is r₀ r₂ 2 0 m (within_is r₀ r₁ 1 0 m (within_is r₀ r₀ 0 0 n (λ e. (e, refl)))));
      by_row = λ s t p e. rw e;
    }

pub byte_kind : (l : ℕ) → EntriesOf byte_word 2 (byte_at l)
unfolding byte_at byte_row
byte_kind l =
    record {
      plain = refl;
      is_row = λ s p.
          let r = row_at s p byte_word 2 in
          within_is r (row_within r 0 0 l) 1 1 256 (within_is r r 0 0 l (λ e. (e, refl)));
      by_row = λ s t p e. rw e;
    }

pub core_kind : RowsOf core_word 3 core_row
unfolding core_row
core_kind = record { plain = refl; is_row = λ s p e. (e, refl); by_row = λ s t p e. e }

pub do_kind : RowsOf do_word 4 do_row
unfolding do_row
do_kind = record { plain = refl; is_row = λ s p e. (e, refl); by_row = λ s t p e. e }

-- ---- what holds of every kind

-- a line has the second byte of its keyword
row_second : (s : List ℕ) (p x y : ℕ) (w : List ℕ) (k : ℕ) → (row_at s p (x ∷ y ∷ w) k).ok ≡ true → peek_at s (p + 1) ≡ y
unfolding row_at
row_second s p x y w k e =
    by_test (leb k 5 && word_at s p (x ∷ y ∷ w))
    (λ h.
    let word = and_right (leb k 5) (word_at s p (x ∷ y ∷ w)) h in
    let rest = and_right (eqb (peek_at s p) x) (word_at s (p + 1) (y ∷ w)) word in
    eqb-true (peek_at s (p + 1)) y (and_left (eqb (peek_at s (p + 1)) y) (word_at s (p + 1 + 1) w) rest))
    (λ h. absurd (true≢false (sym e ∙ rw h)))

-- another second byte is that of no line of the kind
pub second_differs : {A : Type 0} {ok : A → Bool} {next : A → ℕ} {x y : ℕ} {w : List ℕ} {k : ℕ} {line : List ℕ → ℕ → A}
    → KindOf ok next (x ∷ y ∷ w) k line → (s : List ℕ) (p : ℕ) → (peek_at s (p + 1) ≡ y → ⊥) → ok (line s p) ≡ false
second_differs {ok = ok} {x = x} {y = y} {w = w} {k = k} {line = line} kind s p h =
    by_test (ok (line s p)) (λ e. absurd (h (row_second s p x y w k (kind.is_row s p e).0))) (λ e. e)

module _ {A : Type 0} {ok : A → Bool} {next : A → ℕ} {w : List ℕ} {k : ℕ} {line : List ℕ → ℕ → A}
    (kind : KindOf ok next w k line) where
  -- it ends behind the place where it stands, and within the text
  pub moves_on : (s : List ℕ) (p : ℕ) → ok (line s p) ≡ true → (p < next (line s p)) × (next (line s p) ≤ length s)
  moves_on s p e =
      let row = kind.is_row s p e in
      let a = row_advance s p w k row.0 in
      (omega (arith, row.1, a.0), omega (arith, row.1, a.1))

  -- so none stands at the end of the text
  pub none_at_end : (s : List ℕ) (p : ℕ) → length s ≤ p → ok (line s p) ≡ false
  none_at_end s p h = by_test (ok (line s p)) (λ e. absurd (omega (arith, moves_on s p e))) (λ e. e)

  -- two texts that do not differ up to the next LF have the same line there, and what is kept from line to line holds behind it
  module _ {B C : List ℕ → List ℕ → Type 0} (r : Linewise B C) (s t : List ℕ) (p : ℕ) (b : B (drop p s) (drop p t)) where
    pub line_same : line s p ≡ line t p
    line_same = kind.by_row s t p (row_same r s t w k p kind.plain b)

    pub line_walks : ok (line s p) ≡ true → C (drop (next (line s p)) s) (drop (next (line s p)) t)
    line_walks e =
        let row = kind.is_row s p e in
        rw row.1 (row_end r s t w k p kind.plain b row.0)
