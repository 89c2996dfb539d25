-- Where one line stands as it was written, of a right, of a grant or of the core, the reader of that line reads what it says;
-- and with which byte a line starts. Assumes nothing.
use Prim.Native.Nat.{ℕ, zero, suc, ◌+◌, ◌*◌, ◌/◌, ◌%◌, ◌≤◌, ◌<◌}
use mathlib.Core.Path.{◌≡◌, sym, ap, ◌∙◌}
use mathlib.Core.List.{List, [], ◌∷◌, ◌++◌}
use mathlib.Core.Bool.{true, ◌&&◌, true≢false}
use native.Mathlib.Omega.{arith}
use native.Mathlib.Nat.{mod-lt, div-lt_iff_lt-mul, div-add-mod'}
use lib.ListN.{length, drop, length-append}
use lib.Dec.{leb, eqb}
use borrow.Author.Tests.{eqb-true}
use Rattle.text.specs.Number.{peek_at}
use Rattle.text.specs.Line.{word_at, row_at, row_within, Row}
use Rattle.text.specs.Text.{row_text, fields_text}
use Rattle.text.proofs.Cases.{by_test, and_left, and_right}
use Rattle.text.proofs.Digits.{peek_drop}
use Rattle.text.proofs.Lines.{within_limits}
use Rattle.text.proofs.Room.{row_line}
use Rattle.text.proofs.Round.{Small, row_back}
use Rattle.rules.specs.declared.Registers.{Registers}
use Rattle.listing.specs.Words.{right_word, grant_word, core_word}
use Rattle.listing.specs.Lines.{core_row, right_row, grant_row, right_at, grant_at, registers_in}
use Rattle.listing.specs.Output.{line3, line4, core_line}
use Rattle.listing.proofs.Rows.{within_ok}

-- ---- a line that was written, read within its limits

-- five numbers
small_five : (a b c d e : ℕ) → a ≤ 4294967295 → b ≤ 4294967295 → c ≤ 4294967295 → d ≤ 4294967295 → e ≤ 4294967295
    → Small (a ∷ b ∷ c ∷ d ∷ e ∷ [])
small_five a b c d e f g h i j zero = f
small_five a b c d e f g h i j (suc zero) = g
small_five a b c d e f g h i j (suc (suc zero)) = h
small_five a b c d e f g h i j (suc (suc (suc zero))) = i
small_five a b c d e f g h i j (suc (suc (suc (suc zero)))) = j
small_five a b c d e f g h i j (suc (suc (suc (suc (suc k))))) = omega arith

-- the line of a keyword and three or four numbers, as a row that ends at a place
abbrev pub row3 : (next a b c : ℕ) → Row
row3 next a b c = record { ok = true; next = next; v = a ∷ b ∷ c ∷ 0 ∷ 0 ∷ [] }

abbrev row4 : (next a b c d : ℕ) → Row
row4 next a b c d = record { ok = true; next = next; v = a ∷ b ∷ c ∷ d ∷ 0 ∷ [] }

module _ (s rest : List ℕ) (at : ℕ) (w : List ℕ) (a b c : ℕ) (f : a ≤ 4294967295) (g : b ≤ 4294967295) (h : c ≤ 4294967295) where
  pub line3_back : drop at s ≡ line3 w a b c ++ rest → row_at s at w 3 ≡ row3 (at + length (line3 w a b c)) a b c
  line3_back e =
      row_back w (a ∷ b ∷ c ∷ 0 ∷ 0 ∷ []) 3 (omega arith) (omega arith)
      (small_five a b c 0 0 f g h (omega arith) (omega arith)) s rest at e

  line4_back : (d : ℕ) → d ≤ 4294967295 → drop at s ≡ line4 w a b c d ++ rest
      → row_at s at w 4 ≡ row4 (at + length (line4 w a b c d)) a b c d
  line4_back d i e =
      row_back w (a ∷ b ∷ c ∷ d ∷ 0 ∷ []) 4 (omega arith) (omega arith)
      (small_five a b c d 0 f g h i (omega arith)) s rest at e

-- a line is not shorter than its keyword
pub row_long : (w v : List ℕ) (k : ℕ) → k ≤ 5 → length w ≤ length (row_text w v k)
row_long w v k few = rw (row_line w v k few) (omega (arith, length-append w (fields_text k 0 v)))

-- ---- the cell and the division of entry e, of n cells and m divisions
module _ (n m e : ℕ) (some : 1 ≤ m) (few : m ≤ 32) (cells : n ≤ 256) (inside : e < n * m) where
  cell_below : e / m < n
  cell_below = (div-lt_iff_lt-mul some).1 inside

  division_below : e % m < m
  division_below = mod-lt e some

  module _ (s rest : List ℕ) (at : ℕ) where
    -- the line of a right names the entry
    pub right_line_back : (h : ℕ) → 1 ≤ h → h ≤ 7 → drop at s ≡ line3 right_word (e / m) (e % m) h ++ rest
        → right_at n m s at ≡ record { ok = true; next = at + length (line3 right_word (e / m) (e % m) h); key = e; value = h }
    unfolding right_at right_row
    right_line_back h low high d =
        let c = e / m in
        let k = e % m in
        let r = row3 (at + length (line3 right_word c k h)) c k h in
        let row : row_at s at right_word 3 ≡ r =
        line3_back s rest at right_word c k h (omega (arith, cell_below)) (omega (arith, division_below)) (omega arith) d in
        rw (
          row,
          ← within_limits r 0 0 n (omega arith) (omega arith) cell_below,
          ← within_limits r 1 0 m (omega arith) (omega arith) division_below,
          ← within_limits r 2 1 8 (omega arith) low (omega arith),
          div-add-mod' e m,
        )

    -- the line of a grant names the entry
    pub grant_line_back : (g : ℕ) → 1 ≤ g / 256 → g / 256 ≤ 7 → g % 256 < m
        → drop at s ≡ line4 grant_word (e / m) (e % m) (g % 256) (g / 256) ++ rest
        → grant_at n m s at
        ≡ record { ok = true; next = at + length (line4 grant_word (e / m) (e % m) (g % 256) (g / 256)); key = e; value = g }
    unfolding grant_at grant_row
    grant_line_back g low high target d =
        let c = e / m in
        let k = e % m in
        let to = g % 256 in
        let h = g / 256 in
        let r = row4 (at + length (line4 grant_word c k to h)) c k to h in
        let row : row_at s at grant_word 4 ≡ r =
        line4_back s rest at grant_word c k to (omega (arith, cell_below)) (omega (arith, division_below)) (omega arith) h (omega arith) d in
        let whole : to + 256 * h ≡ g = omega arith in
        rw (
          row,
          ← within_limits r 0 0 n (omega arith) (omega arith) cell_below,
          ← within_limits r 1 0 m (omega arith) (omega arith) division_below,
          ← within_limits r 2 0 m (omega arith) (omega arith) target,
          ← within_limits r 3 1 8 (omega arith) low (omega arith),
          div-add-mod' e m,
          whole,
        )

-- the registers that stand written at a place are read there
pub core_back : (r : Registers) (s rest : List ℕ) (at : ℕ) → r.current ≤ 4294967295 → r.caller ≤ 4294967295
    → r.place ≤ 4294967295 → drop at s ≡ core_line r ++ rest
    → ((core_row s at).ok ≡ true) × (registers_in (core_row s at) ≡ r) × ((core_row s at).next ≡ at + length (core_line r))
unfolding core_row core_line
core_back r s rest at f g h d =
    let row = line3_back s rest at core_word r.current r.caller r.place f g h d in
    (ap (λ (r : Row). r.ok) row, ap registers_in row, ap (λ (r : Row). r.next) row)

-- ---- the first byte of a line

-- a line starts with the first byte of its keyword
row_first : (s : List ℕ) (at x : ℕ) (w : List ℕ) (k : ℕ) → (row_at s at (x ∷ w) k).ok ≡ true → peek_at s at ≡ x
unfolding row_at
row_first s at x w k e =
    by_test (leb k 5 && word_at s at (x ∷ w))
    (λ h.
    eqb-true (peek_at s at) x
    (and_left (eqb (peek_at s at) x) (word_at s (at + 1) w) (and_right (leb k 5) (word_at s at (x ∷ w)) h)))
    (λ h. absurd (true≢false (sym e ∙ rw h)))

-- a right line with r
pub right_first : (n m : ℕ) (s : List ℕ) (at : ℕ) → (right_at n m s at).ok ≡ true → peek_at s at ≡ 114
unfolding right_at right_row
right_first n m s at e =
    let r₀ = row_at s at right_word 3 in
    let r₁ = row_within r₀ 0 0 n in
    let r₂ = row_within r₁ 1 0 m in
    row_first s at 114 (105 ∷ 103 ∷ 104 ∷ 116 ∷ []) 3
    (within_ok r₀ 0 0 n (within_ok r₁ 1 0 m (within_ok r₂ 2 1 8 e).0).0).0

-- the line of a grant with g
pub grant_first : (s rest : List ℕ) (at a b c d : ℕ) → drop at s ≡ line4 grant_word a b c d ++ rest → peek_at s at ≡ 103
grant_first s rest at a b c d e =
    let line = row_line grant_word (a ∷ b ∷ c ∷ d ∷ 0 ∷ []) 4 (omega arith) in
    sym (peek_drop s at) ∙ ap (λ (l : List ℕ). peek_at l 0) (e ∙ ap (λ (l : List ℕ). l ++ rest) line)
