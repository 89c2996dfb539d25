-- What follows from the local laws besides histories: rights held or offered on a cell never grow, a group that is kept off
-- a cell stays off it, and a byte changes only by a write. Assumes nothing.
use mathlib.Core.Path.{◌≡◌, refl, sym, ap, ◌∙◌, subst}
use mathlib.Core.Logic.{◌≢◌}
use Prim.Native.Nat.{ℕ, zero, suc, ◌≤◌, ◌<◌}
use mathlib.Core.Bool.{Bool, true, false, true≢false}
use native.Mathlib.Omega.{arith}
use native.Mathlib.Nat.{le_refl}
use native.Mathlib.Decide.{dec_le}
use Rattle.rules.proofs.Below.{by_test}
use Rattle.history.specs.History.{Right, Run}
use Rattle.history.proofs.Theorem.{Laws, at_end}

-- somebody holds, or is offered, the right on the cell
pub data Around (R : Run) (t c : ℕ) (r : Right) : Type 0 where
  holder : (d : ℕ) → R.holds t c d r ≡ true → Around R t c r
  offer : (m d : ℕ) → R.offers t c m d r ≡ true → Around R t c r

module _ (R : Run) (L : Laws R) where
  pub around_before : (n c : ℕ) (r : Right) → R.begins (suc n) c ≡ false → Around R (suc n) c r → Around R n c r
  around_before n c r nb (holder d h) =
      by_test (R.holds n c d r) (λ k. holder d k) (λ nk. offer (R.source (suc n)) d (L.gain n c d r nb nk h).1)
  around_before n c r nb (offer m d h) =
      by_test (R.makes (suc n) c m) (λ x. holder m (L.made n c m d r nb x h)) (λ nx. offer m d (L.kept n c m d r nb nx h))

  -- a right that nobody holds or is offered on a cell is never again on it
  pub never_around : (t s c : ℕ) (r : Right) → s ≤ t → ((i : ℕ) → s < i → i ≤ t → R.begins i c ≡ false) → Around R t c r → Around R s c r
  never_around zero s c r h nb a = subst (λ (j : ℕ). Around R j c r) (omega arith) a
  never_around (suc n) s c r h nb a =
      elim (dec_le s n) [
        | yes k ↦ never_around n s c r k (λ i p q. nb i p (omega arith)) (around_before n c r (nb (suc n) (omega arith) (le_refl (suc n))) a)
        | no k ↦ subst (λ (j : ℕ). Around R j c r) (omega arith) a
      ]

-- no member of the group holds the right on the cell, or is offered it
pub record KeptOff (R : Run) (G : ℕ → Bool) (t c : ℕ) (r : Right) : Type 0 where
  pub holds_not : (d : ℕ) → G d ≡ true → R.holds t c d r ≡ false
  pub offered_not : (m d : ℕ) → G d ≡ true → R.offers t c m d r ≡ false

not_true : (b : Bool) → (b ≡ true → ⊥) → b ≡ false
not_true true f = absurd (f refl)
not_true false f = refl

clash : {b : Bool} → b ≡ true → b ≡ false → ⊥
clash p q = true≢false (sym p ∙ q)

module _ (R : Run) (L : Laws R) (G : ℕ → Bool) (c : ℕ) (r : Right)
    (outside : (i m d : ℕ) → R.makes i c m ≡ true → R.offers i c m d r ≡ true → G d ≡ true → G m ≡ true) where
  pub kept_off_step : (n : ℕ) → R.begins (suc n) c ≡ false → KeptOff R G n c r → KeptOff R G (suc n) c r
  kept_off_step n nb k = record {
    holds_not = λ d g. not_true _ (λ h. clash (L.gain n c d r nb (k.holds_not d g) h).1 (k.offered_not (R.source (suc n)) d g));
    offered_not = λ m d g. not_true _ (λ h. by_test (R.makes (suc n) c m)
        (λ x. clash (L.made n c m d r nb x h) (k.holds_not m (outside (suc n) m d x h g)))
        (λ nx. clash (L.kept n c m d r nb nx h) (k.offered_not m d g)));
  }

  pub kept_off : (t : ℕ) → ((i : ℕ) → 0 < i → i ≤ t → R.begins i c ≡ false) → KeptOff R G 0 c r → KeptOff R G t c r
  kept_off zero nb k = k
  kept_off (suc n) nb k = kept_off_step n (nb (suc n) (omega arith) (le_refl (suc n))) (kept_off n (λ i p q. nb i p (omega arith)) k)

-- ---- memory

pub record Memory : Type 0 where
  pub byte : (time place : ℕ) → ℕ
  -- the step is an accepted store or block write, over this place, from a division then holding write on the valid cell that covers it
  pub writes : (step place : ℕ) → Bool

pub record OnlyWrites (M : Memory) : Type 0 where
  pub still : (n a : ℕ) → M.writes (suc n) a ≡ false → M.byte (suc n) a ≡ M.byte n a

-- a place that differs at two times was written by a step between them, and not after that step
pub record Written (M : Memory) (s t a : ℕ) : Type 0 where
  pub step : ℕ
  pub after : s < step
  pub by : step ≤ t
  pub wrote : M.writes step a ≡ true
  pub last : (i : ℕ) → step ≤ i → i ≤ t → M.byte i a ≡ M.byte t a

module _ (M : Memory) (W : OnlyWrites M) where
  longer_written : (n s a : ℕ) → M.writes (suc n) a ≡ false → Written M s n a → Written M s (suc n) a
  longer_written n s a nx w = record {
    step = w.step;
    after = w.after;
    by = omega arith;
    wrote = w.wrote;
    last = λ i p q. at_end i n q (λ l. w.last i p l ∙ sym (W.still n a nx)) (λ e. ap (λ (j : ℕ). M.byte j a) e);
  }

  pub changed : (t s a : ℕ) → s ≤ t → M.byte t a ≢ M.byte s a → Written M s t a
  changed zero s a h ne = absurd (ne (ap (λ (j : ℕ). M.byte j a) (omega arith)))
  changed (suc n) s a h ne =
      elim (dec_le s n) [
        | no k ↦ absurd (ne (ap (λ (j : ℕ). M.byte j a) (omega arith)))
        | yes k ↦ by_test (M.writes (suc n) a)
            (λ x. record {
              step = suc n;
              after = omega arith;
              by = le_refl (suc n);
              wrote = x;
              last = λ i p q. ap (λ (j : ℕ). M.byte j a) (omega arith);
            })
            (λ nx. longer_written n s a nx (changed n s a k (λ e. ne (W.still n a nx ∙ e))))
      ]
