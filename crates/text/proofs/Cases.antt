-- Tests and fields taken apart. Assumes nothing.
use Prim.Native.Nat.{ℕ, ◌≤◌, ◌<◌}
use mathlib.Core.Path.{◌≡◌, refl, sym}
use mathlib.Core.Bool.{Bool, true, false, ◌&&◌, true≢false}
use lib.Dec.{ltb}
use borrow.Author.Tests.{ltb-true, ltb-false}
use Rattle.text.specs.Number.{Field, Number, Bad}

-- what a test answers, with the equation
pub by_test {ℓ} : {X : Type ℓ} (b : Bool) → (b ≡ true → X) → (b ≡ false → X) → X
by_test true f g = f refl
by_test false f g = g refl

pub below_or_not {ℓ} : {X : Type ℓ} (m n : ℕ) → (m < n → X) → (n ≤ m → X) → X
below_or_not m n f g = by_test (ltb m n) (λ e. f (ltb-true m n e)) (λ e. g (ltb-false m n e))

-- a number, or none
pub by_field {ℓ} : {X : Type ℓ} (f : Field) → ((x n : ℕ) → f ≡ Number x n → X) → (f ≡ Bad → X) → X
by_field (Number x n) f g = f x n refl
by_field Bad f g = g refl

pub and_left : (a b : Bool) → (a && b) ≡ true → a ≡ true
and_left true b e = refl
and_left false b e = e

pub and_right : (a b : Bool) → (a && b) ≡ true → b ≡ true
and_right true b e = e
and_right false b e = absurd (true≢false (sym e))
