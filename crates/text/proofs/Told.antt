-- An `Option` hides nothing that the definition tells: none stands for 256, for `Bad` and for the bad row. And a line is the
-- same text, of a slice of its numbers or of a list with more behind them. Assumes nothing.
use Prim.Native.Nat.{ℕ, zero, suc, ◌+◌, ◌≤◌}
use mathlib.Core.Path.{◌≡◌, refl}
use mathlib.Core.List.{List}
use mathlib.Core.Bool.{Bool, true, false, cond, ◌&&◌}
use native.Mathlib.Omega.{arith}
use lib.ListN.{length, get_or, take, set}
use lib.Dec.{eqb, leb, ltb}
use borrow.Author.Tests.{ltb-false}
use Rattle.std.proofs.Common.{Option, Some, None}
use Rattle.std.specs.Option.{unwrap_or}
use Rattle.std.proofs.lemmas.List.{get_or-take}
use Rattle.text.specs.Number.{Field, Number, Bad, peek_at, byte_or_none, number_at, option_of_field}
use Rattle.text.specs.declared.number.Number.{Number as FoundNumber}
use Rattle.text.specs.Line.{Row, option_of_row, bad_row, row_told, tab, line_feed, zeros5, case_field, word_at, fields_at, row_at, row_within}
use Rattle.text.specs.Text.{fields_text, row_text}
use Rattle.text.proofs.Cases.{by_test}

-- ---- a byte, and a number

pub byte_told : (c : ℕ) → c ≤ 256 → unwrap_or (byte_or_none c) 256 ≡ c
byte_told c h = by_test (ltb c 256) (λ e. rw e) (λ e. rw e (omega (arith, ltb-false c 256 e)))

abbrev pub field_told : Option FoundNumber → Field
field_told (Some x) = Number x.value x.next
field_told None = Bad

pub number_told : (f : Field) → field_told (option_of_field f) ≡ f
number_told (Number x n) = refl
number_told Bad = refl

-- ---- a row

abbrev pub IsTold : Row → Type 0
IsTold r = row_told (option_of_row r) ≡ r

told_if : (b : Bool) (r : Row) → IsTold r → IsTold (cond b r bad_row)
told_if true r h = h
told_if false r h = refl

told_field : (f : Field) (g : ℕ → ℕ → Row) → ((x n : ℕ) → IsTold (g x n)) → IsTold (case_field f g bad_row)
told_field (Number x n) g h = h x n
told_field Bad g h = refl

fields_told : (s : List ℕ) (k j : ℕ) (v : List ℕ) (at : ℕ) → IsTold (fields_at s k j v at)
fields_told s zero j v at = told_if (eqb (peek_at s at) line_feed) (record { ok = true; next = at + 1; v = v }) refl
fields_told s (suc k) j v at =
    let rest : ℕ → ℕ → Row = λ x n. fields_at s k (j + 1) (set v j x) n in
    told_if (eqb (peek_at s at) tab) (case_field (number_at s (at + 1)) rest bad_row)
    (told_field (number_at s (at + 1)) rest (λ x n. fields_told s k (j + 1) (set v j x) n))

pub line_told : (s : List ℕ) (at : ℕ) (w : List ℕ) (k : ℕ) → IsTold (row_at s at w k)
unfolding row_at
line_told s at w k =
    told_if (leb k 5 && word_at s at w) (fields_at s k 0 zeros5 (at + length w)) (fields_told s k 0 zeros5 (at + length w))

pub within_told : (r : Row) (j least limit : ℕ) → IsTold r → IsTold (row_within r j least limit)
unfolding row_within
within_told r j least limit h = told_if (ltb j 5 && leb least (get_or r.v j 0) && ltb (get_or r.v j 0) limit) r h

-- ---- a line of the first k numbers

fields_front : (k j n : ℕ) (v : List ℕ) → j + k ≤ n → fields_text k j (take n v) ≡ fields_text k j v
fields_front zero j n v h = refl
fields_front (suc k) j n v h = rw (fields_front k (j + 1) n v (omega arith), get_or-take n v j 0 (omega arith))

pub row_front : (w v : List ℕ) (k : ℕ) → row_text w (take k v) k ≡ row_text w v k
unfolding row_text
row_front w v k = rw (fields_front k 0 k v (omega arith))
