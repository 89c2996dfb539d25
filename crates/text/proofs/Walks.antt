-- Two loops over lines of one kind, side by side: `R j st` holds where j lines are left of those that both loops read alike.
-- Assumes nothing.
use Prim.Native.Nat.{ℕ, zero, suc, ◌+◌, ◌≤◌}
use mathlib.Core.Path.{◌≡◌, refl}
use mathlib.Core.Bool.{Bool, true, false}
use native.Mathlib.Omega.{arith}
use Rattle.text.specs.Star.{star}
use Rattle.text.proofs.Cases.{by_test}
use Rattle.text.proofs.Stars.{star_keeps}

module _ {S : Type 0} (goes : S → Bool) (next : S → S) (count : S → ℕ) (R : ℕ → S → Type 0)
    (counts : (st : S) → goes st ≡ true → count (next st) ≡ suc (count st))
    (walks : (j : ℕ) (st : S) → R (suc j) st → goes st ≡ true → R j (next st)) where
  star_counts : (k : ℕ) (st : S) → count st ≤ count (star goes next k st)
  star_counts k st =
      star_keeps goes next (λ u. count st ≤ count u) (λ u h p. omega (arith, counts u h)) k st (omega arith)

  -- so many lines are left at the end
  pub star_walks : (k j i : ℕ) (st : S) → R j st → count (star goes next k st) + i ≡ count st + j → R i (star goes next k st)
  unfolding star
  star_walks zero j i st r e = let same : i ≡ j = omega arith in rw same r
  star_walks (suc k) zero i st r e =
      by_test (goes st)
      (λ h. absurd (omega (arith, rw h at e, counts st h, star_counts k (next st))))
      (λ h. let same : i ≡ 0 = omega (arith, rw h at e) in rw (h, same) r)
  star_walks (suc k) (suc j) i st r e =
      by_test (goes st)
      (λ h. rw h (star_walks k j i (next st) (walks j st r h) (omega (arith, rw h at e, counts st h))))
      (λ h. let same : i ≡ suc j = omega (arith, rw h at e) in rw (h, same) r)

  -- and the other loop ends in the same state, where it does not go on behind the last of them
  module _ (other : S → Bool) (then : S → S)
      (same-goes : (j : ℕ) (st : S) → R (suc j) st → goes st ≡ other st)
      (same_next : (j : ℕ) (st : S) → R (suc j) st → next st ≡ then st) where
    pub star_same : (k j i : ℕ) (st : S) → R j st → count (star goes next k st) + i ≡ count st + j
        → (i ≡ 0 → R 0 (star goes next k st) → other (star goes next k st) ≡ false)
        → star goes next k st ≡ star other then k st
    unfolding star
    star_same zero j i st r e stops = refl
    star_same (suc k) zero i st r e stops =
        by_test (goes st)
        (λ h. absurd (omega (arith, rw h at e, counts st h, star_counts k (next st))))
        (λ h. rw (h, rw h at stops (omega (arith, rw h at e)) r))
    star_same (suc k) (suc j) i st r e stops =
        by_test (goes st)
        (λ h.
        rw (← same-goes j st r, h, ← same_next j st r)
        (star_same k j i (next st) (walks j st r h) (omega (arith, rw h at e, counts st h)) (rw h at stops)))
        (λ h. rw (← same-goes j st r, h))
