-- What is read ends behind the place where it stands, and within the text: so a loop over lines comes to an end.
-- Assumes nothing.
use Prim.Native.Nat.{ℕ, zero, suc, ◌+◌, ◌*◌, ◌≤◌, ◌<◌}
use mathlib.Core.Path.{◌≡◌, sym, ◌∙◌}
use mathlib.Core.List.{List, [], ◌∷◌}
use mathlib.Core.Bool.{true, false, ◌&&◌, true≢false}
use native.Mathlib.Omega.{arith}
use lib.ListN.{length, drop, set, length-drop}
use lib.Dec.{ltb, leb, eqb}
use borrow.Author.Tests.{ltb-true, eqb-true}
use Rattle.text.specs.Number.{peek_at, is_digit, digits_in, value_from, no_leading_zero, starts_number, number_at, Number, Bad}
use Rattle.text.specs.Line.{tab, line_feed, zeros5, word_at, fields_at, row_at}
use Rattle.text.proofs.Cases.{by_test, by_field, and_left}
use Rattle.text.proofs.Digits.{peek_inside}

digits_inside : (l : List ℕ) → digits_in l ≤ length l
digits_inside [] = omega arith
digits_inside (c ∷ l) =
    by_test (is_digit c) (λ h. rw h (omega (arith, digits_inside l))) (λ h. rw h (omega arith))

pub number_ends : (s : List ℕ) (at : ℕ) {x n : ℕ} → number_at s at ≡ Number x n → (at < n) × (n ≤ length s)
unfolding number_at
number_ends s at {x} {n} e = by_test (starts_number l) right (λ h. absurd (none h))
  where
    l : List ℕ
    l = drop at s

    right : starts_number l ≡ true → (at < n) × (n ≤ length s)
    right h =
        let same : Number (value_from 0 l) (at + digits_in l) ≡ Number x n = sym (rw h) ∙ e in
        let place : at + digits_in l ≡ n = cc in
        let some : 0 < digits_in l =
        ltb-true 0 (digits_in l)
        (and_left (ltb 0 (digits_in l)) (leb (value_from 0 l) 4294967295)
        (and_left (ltb 0 (digits_in l) && leb (value_from 0 l) 4294967295) (no_leading_zero l) h)) in
        (omega arith, omega (arith, digits_inside l, length-drop at s))

    none : starts_number l ≡ false → ⊥
    none h =
        let same : Bad ≡ Number x n = sym (rw h) ∙ e in
        let z : ◌≡◌ {A = ℕ} 0 1 = cc in omega arith

-- a number takes two bytes at least, its tab and a digit
pub fields_advance : (s : List ℕ) (k j : ℕ) (v : List ℕ) (at : ℕ) → (fields_at s k j v at).ok ≡ true →
    (at + 2 * k < (fields_at s k j v at).next) × ((fields_at s k j v at).next ≤ length s)
fields_advance s zero j v at e =
    by_test (eqb (peek_at s at) line_feed)
    (λ h. rw h (omega arith, omega (arith, peek_inside s at (omega (arith, eqb-true (peek_at s at) line_feed h)))))
    (λ h. absurd (true≢false (sym e ∙ rw h)))
fields_advance s (suc k) j v at e =
    by_test (eqb (peek_at s at) tab)
    (λ h.
    by_field (number_at s (at + 1))
    (λ x n f.
    let ends = number_ends s (at + 1) f in
    let rest = fields_advance s k (j + 1) (set v j x) n (rw (h, f) at e) in
    rw (h, f) (omega arith, rest.1))
    (λ f. absurd (true≢false (sym e ∙ rw (h, f)))))
    (λ h. absurd (true≢false (sym e ∙ rw h)))

-- a right line ends behind its keyword and numbers, within the text
pub row_advance : (s : List ℕ) (at : ℕ) (w : List ℕ) (k : ℕ) → (row_at s at w k).ok ≡ true →
    (at + length w + 2 * k < (row_at s at w k).next) × ((row_at s at w k).next ≤ length s)
unfolding row_at
row_advance s at w k e =
    by_test (leb k 5 && word_at s at w)
    (λ h. rw h (fields_advance s k 0 zeros5 (at + length w) (rw h at e)))
    (λ h. absurd (true≢false (sym e ∙ rw h)))
