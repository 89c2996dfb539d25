-- Laws of the number at a place. Assumes nothing.
use Prim.Native.Nat.{ℕ, ◌+◌, ◌≤◌, ◌<◌, min}
use mathlib.Core.Path.{◌≡◌, sym, ◌∙◌}
use mathlib.Core.List.{List}
use native.Mathlib.Omega.{arith}
use lib.ListN.{drop}
use borrow.Author.Tests.{lt-ltb, le-ltb, le-leb, lt-leb, eq-eqb, ne_eqb}
use Rattle.text.specs.Number.{peek_at, digits_in, value_from, number_at, Number, Bad}
use Rattle.text.proofs.Digits.{peek_drop}

-- ---- by what `run_at` found: the value v, kept at 4,294,967,296, and the place n after the digits

module _ (s : List ℕ) (at : ℕ) {v n : ℕ}
    (hv : v ≡ min (value_from 0 (drop at s)) 4294967296) (hn : n ≡ at + digits_in (drop at s)) where
  pub number_empty : n ≡ at → Bad ≡ number_at s at
  unfolding number_at
  number_empty h = rw (le-ltb 0 (digits_in (drop at s)) (omega arith))

  module _ (h : n ≡ at → ⊥) where
    some_digit : 0 < digits_in (drop at s)
    some_digit = omega arith

    pub number_large : 4294967295 < v → Bad ≡ number_at s at
    unfolding number_at
    number_large k =
        rw (lt-ltb 0 (digits_in (drop at s)) some_digit, lt-leb (value_from 0 (drop at s)) 4294967295 (omega arith))

    module _ (k : v ≤ 4294967295) where
      value_is : value_from 0 (drop at s) ≡ v
      value_is = omega arith

      pub number_padded : peek_at s at ≡ 48 → (n ≡ at + 1 → ⊥) → Bad ≡ number_at s at
      unfolding number_at
      number_padded z e =
          rw (
            lt-ltb 0 (digits_in (drop at s)) some_digit,
            value_is,
            le-leb v 4294967295 k,
            eq-eqb (peek_at (drop at s) 0) 48 (peek_drop s at ∙ z),
            ne_eqb (digits_in (drop at s)) 1 (λ f. e (omega arith)),
          )

      pub number_zero : peek_at s at ≡ 48 → n ≡ at + 1 → Number v n ≡ number_at s at
      unfolding number_at
      number_zero z e =
          rw (
            lt-ltb 0 (digits_in (drop at s)) some_digit,
            value_is,
            le-leb v 4294967295 k,
            eq-eqb (peek_at (drop at s) 0) 48 (peek_drop s at ∙ z),
            eq-eqb (digits_in (drop at s)) 1 (omega arith),
            ← hn,
          )

      pub number_plain : (peek_at s at ≡ 48 → ⊥) → Number v n ≡ number_at s at
      unfolding number_at
      number_plain z =
          rw (
            lt-ltb 0 (digits_in (drop at s)) some_digit,
            value_is,
            le-leb v 4294967295 k,
            ne_eqb (peek_at (drop at s) 0) 48 (λ e. z (sym (peek_drop s at) ∙ e)),
            ← hn,
          )
