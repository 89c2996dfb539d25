-- Laws of `star`, for a loop over lines of one kind. Assumes nothing.
use Prim.Native.Nat.{ℕ, zero, suc, ◌+◌, ◌-◌, ◌≤◌, ◌<◌}
use mathlib.Core.Path.{◌≡◌, refl}
use mathlib.Core.Bool.{Bool, true, false}
use native.Mathlib.Omega.{arith}
use Rattle.text.specs.Star.{star}
use Rattle.text.proofs.Cases.{by_test}

-- ---- a loop of at most k turns, after n of them: its invariant is `star goes next (k - n) st ≡ star goes next k st₀`

module _ {S : Type 0} (goes : S → Bool) (next : S → S) (st : S) (k n : ℕ) where
  pub star_stop : n < k → goes st ≡ false → star goes next (k - n) st ≡ st
  unfolding star
  star_stop h e = let one_left : k - n ≡ suc (k - (n + 1)) = omega arith in rw (one_left, e)

  pub star_more : n < k → goes st ≡ true → star goes next (k - n) st ≡ star goes next (k - (n + 1)) (next st)
  unfolding star
  star_more h e = let one_left : k - n ≡ suc (k - (n + 1)) = omega arith in rw (one_left, e)

  pub star_full : k ≤ n → star goes next (k - n) st ≡ st
  unfolding star
  star_full h = let none_left : k - n ≡ 0 = omega arith in rw none_left

-- ---- what holds of the end

module _ {S : Type 0} (goes : S → Bool) (next : S → S) where
  -- where no turn goes, there is none
  pub star_none : (k : ℕ) (st : S) → goes st ≡ false → star goes next k st ≡ st
  unfolding star
  star_none zero st e = refl
  star_none (suc k) st e = rw e

  -- what each turn keeps holds at the end
  pub star_keeps : (P : S → Type 0) → ((st : S) → goes st ≡ true → P st → P (next st)) →
      (k : ℕ) (st : S) → P st → P (star goes next k st)
  unfolding star
  star_keeps P turn zero st p = p
  star_keeps P turn (suc k) st p =
      by_test (goes st) (λ h. rw h (star_keeps P turn k (next st) (turn st h p))) (λ h. rw h p)

  -- where each turn makes μ less, μ turns are enough: the end is where no turn goes
  module _ (μ : S → ℕ) (less : (st : S) → goes st ≡ true → μ (next st) < μ st) where
    pub star_ends : (k : ℕ) (st : S) → μ st ≤ k → goes (star goes next k st) ≡ false
    unfolding star
    star_ends zero st h = by_test (goes st) (λ e. absurd (omega (arith, less st e))) (λ e. e)
    star_ends (suc k) st h =
        by_test (goes st) (λ e. rw e (star_ends k (next st) (omega (arith, less st e)))) (λ e. rw e e)

    pub star_enough : (k m : ℕ) (st : S) → μ st ≤ k → μ st ≤ m → star goes next k st ≡ star goes next m st
    unfolding star
    star_enough zero zero st h g = refl
    star_enough zero (suc m) st h g =
        by_test (goes st) (λ e. absurd (omega (arith, less st e))) (λ e. rw e)
    star_enough (suc k) zero st h g =
        by_test (goes st) (λ e. absurd (omega (arith, less st e))) (λ e. rw e)
    star_enough (suc k) (suc m) st h g =
        by_test (goes st)
        (λ e. rw e (star_enough k m (next st) (omega (arith, less st e)) (omega (arith, less st e))))
        (λ e. rw e)
