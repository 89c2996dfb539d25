-- Laws of single rights among rights: part of, joined, none; and of an entry after a put. Assumes nothing.
use Prim.Native.Nat.{ℕ, ◌+◌, ◌*◌, ◌/◌, ◌%◌, ◌≤◌}
use mathlib.Core.Path.{◌≡◌, refl, sym, ◌∙◌, subst}
use mathlib.Core.Logic.{◌⊎◌, inl, inr}
use mathlib.Core.List.{List}
use mathlib.Core.Bool.{Bool, true, false, cond, ◌&&◌}
use native.Mathlib.Omega.{arith}
use lib.ListN.{length, get_or, set}
use lib.Seq.{get_or-set_same, get_or-set_other, set_out}
use lib.Dec.{leb, ltb, eqb}
use borrow.Author.Tests.{leb-true, ltb-true, ltb-false, eqb-true, eqb-false, eq-eqb}
use Rattle.rules.specs.Numbers.{part_of, larger, join}
use Rattle.rules.proofs.Below.{and_left, and_right, by_test, clash}
use Rattle.rules.proofs.Rights.{larger_le}
use Rattle.history.specs.History.{Right, to_read, to_write, to_execute}
use Rattle.history.specs.Shown.{has}

-- ---- single rights

-- the digit of a right
unfoldable pub digit : Right → ℕ → ℕ
digit to_read p = p % 2
digit to_write p = p / 2 % 2
digit to_execute p = p / 4 % 2

digit_small : (r : Right) (p : ℕ) → digit r p ≤ 1
unfolding digit
digit_small to_read p = omega arith
digit_small to_write p = omega arith
digit_small to_execute p = omega arith

has_digit : (r : Right) (p : ℕ) → has r p ≡ eqb (digit r p) 1
unfolding has digit
has_digit to_read p = refl
has_digit to_write p = refl
has_digit to_execute p = refl

part_digit : (r : Right) (a b : ℕ) → part_of a b ≡ true → digit r a ≤ digit r b
unfolding part_of digit
part_digit to_read a b e =
    leb-true _ _ (and_left (leb (a % 2) (b % 2)) _ (and_left (leb (a % 2) (b % 2) && leb (a / 2 % 2) (b / 2 % 2)) _ e))
part_digit to_write a b e =
    leb-true _ _ (and_right (leb (a % 2) (b % 2)) _ (and_left (leb (a % 2) (b % 2) && leb (a / 2 % 2) (b / 2 % 2)) _ e))
part_digit to_execute a b e = leb-true _ _ (and_right (leb (a % 2) (b % 2) && leb (a / 2 % 2) (b / 2 % 2)) _ e)

join_digit : (r : Right) (a b : ℕ) → digit r (join a b) ≡ larger (digit r a) (digit r b)
unfolding join digit
join_digit r a b = go r (larger_le (a % 2) (b % 2) 1 (omega arith) (omega arith)) (larger_le (a / 2 % 2) (b / 2 % 2) 1 (omega arith) (omega arith))
    (larger_le (a / 4 % 2) (b / 4 % 2) 1 (omega arith) (omega arith))
  where
    go : (r : Right) → larger (a % 2) (b % 2) ≤ 1 → larger (a / 2 % 2) (b / 2 % 2) ≤ 1 → larger (a / 4 % 2) (b / 4 % 2) ≤ 1
        → digit r (larger (a % 2) (b % 2) + 2 * larger (a / 2 % 2) (b / 2 % 2) + 4 * larger (a / 4 % 2) (b / 4 % 2))
        ≡ larger (digit r a) (digit r b)
    go to_read u v w = omega arith
    go to_write u v w = omega arith
    go to_execute u v w = omega arith

larger_one : (a b : ℕ) → larger a b ≡ 1 → (a ≡ 1 → ⊥) → b ≡ 1
unfolding larger
larger_one a b e h = go (leb a b) e
  where
    go : (t : Bool) → cond t b a ≡ 1 → b ≡ 1
    go true f = f
    go false f = absurd (h f)

has_one : (r : Right) (p : ℕ) → has r p ≡ true → digit r p ≡ 1
has_one r p e = eqb-true _ _ (sym (has_digit r p) ∙ e)

one_has : (r : Right) (p : ℕ) → digit r p ≡ 1 → has r p ≡ true
one_has r p e = has_digit r p ∙ eq-eqb _ _ e

has_not_one : (r : Right) (p : ℕ) → has r p ≡ false → digit r p ≡ 1 → ⊥
has_not_one r p e f = clash (has r p) (one_has r p f) e

-- a right of a part is a right of the whole
pub has_part : (r : Right) (a b : ℕ) → part_of a b ≡ true → has r a ≡ true → has r b ≡ true
has_part r a b e h =
    one_has r b (omega (arith, part_digit r a b e, has_one r a h, digit_small r b))

-- a joined right that was not in the first comes from the second
pub has_join : (r : Right) (a b : ℕ) → has r (join a b) ≡ true → has r a ≡ false → has r b ≡ true
has_join r a b e n =
    one_has r b (larger_one (digit r a) (digit r b) (sym (join_digit r a b) ∙ has_one r (join a b) e) (has_not_one r a n))

pub has_none : (r : Right) → has r 0 ≡ false
unfolding has
has_none to_read = refl
has_none to_write = refl
has_none to_execute = refl

-- ---- after a put

-- what holds of the number that stands at j now, holds of the one put there, or held of the one that stood there
pub put_cases : (P : ℕ → Type 0) (l : List ℕ) (i j v : ℕ) → P (get_or (set l i v) j 0) → ((j ≡ i) × P v) ⊎ P (get_or l j 0)
put_cases P l i j v h =
    by_test (eqb j i)
    (λ e. let q : j ≡ i = eqb-true j i e in
    by_test (ltb i (length l))
    (λ b. inl (q, subst P (get_or-set_same l i v 0 (ltb-true i (length l) b)) (subst (λ (k : ℕ). P (get_or (set l i v) k 0)) q h)))
    (λ b. inr (subst (λ (k : List ℕ). P (get_or k j 0)) (set_out l i v (ltb-false i (length l) b)) h)))
    (λ e. inr (subst P (get_or-set_other l i j v 0 (eqb-false j i e)) h))
