-- The theorem of histories, over any run that obeys five local laws: what is held has a history, and so has a grant that
-- stands. One induction over time. Assumes nothing.
use mathlib.Core.Path.{◌≡◌, sym, subst}
use Prim.Native.Nat.{ℕ, zero, suc, ◌≤◌}
use mathlib.Core.Bool.{Bool, true, false, ◌||◌, true≢false}
use native.Mathlib.Omega.{arith}
use native.Mathlib.Nat.{le_refl, le_antisymm}
use native.Mathlib.Decide.{dec_le}
use Rattle.rules.proofs.Below.{by_test}
use Rattle.history.specs.History.{Right, Run, Stretch, Held, Gift, since_start, by_receive, stood, was_made}

-- ---- the laws that each single step must obey

pub record Laws (R : Run) : Type 0 where
  pub begins_zero : (c : ℕ) → R.begins zero c ≡ true
  pub gain : (n c d : ℕ) (r : Right) → (R.begins (suc n) c ≡ false) → (R.holds n c d r ≡ false) → (R.holds (suc n) c d r ≡ true)
      → (R.takes (suc n) c d (R.source (suc n)) ≡ true) × (R.offers n c (R.source (suc n)) d r ≡ true)
  -- an accepted receive takes from the division that it names
  pub named : (i c d m : ℕ) → R.takes i c d m ≡ true → m ≡ R.source i
  pub made : (n c m d : ℕ) (r : Right) → (R.begins (suc n) c ≡ false) → (R.makes (suc n) c m ≡ true) → (R.offers (suc n) c m d r ≡ true) → (R.holds n c m r ≡ true)
  pub kept : (n c m d : ℕ) (r : Right) → (R.begins (suc n) c ≡ false) → (R.makes (suc n) c m ≡ false) → (R.offers (suc n) c m d r ≡ true) → (R.offers n c m d r ≡ true)

-- ---- stretches

pub point : (P Q : ℕ → Bool) (t : ℕ) → (P t ≡ true) → Stretch P Q t t
point P Q t p = record {
  ordered = omega arith;
  unbroken = λ i h k. subst (λ (j : ℕ). (P j ≡ true)) (le_antisymm h k) p;
  undisturbed = λ i h k. absurd (omega arith);
}

-- at the last time, or before it
pub at_end : {X : Type 0} (i t : ℕ) → i ≤ suc t → (i ≤ t → X) → (i ≡ suc t → X) → X
at_end i t k f g = elim (dec_le i t) [ yes h ↦ f h | no h ↦ g (omega arith) ]

pub longer : (P Q : ℕ → Bool) (s t : ℕ) → Stretch P Q s t → (P (suc t) ≡ true) → (Q (suc t) ≡ false) → Stretch P Q s (suc t)
longer P Q s t w p q = record {
  ordered = omega arith;
  unbroken = λ i h k. at_end i t k (λ l. w.unbroken i h l) (λ e. subst (λ (j : ℕ). (P j ≡ true)) (sym e) p);
  undisturbed = λ i h k. at_end i t k (λ l. w.undisturbed i h l) (λ e. subst (λ (j : ℕ). (Q j ≡ false)) (sym e) q);
}

-- ---- the theorem

pub neither : (a b : Bool) → (a ≡ false) → (b ≡ false) → (a || b ≡ false)
neither true b p q = absurd (true≢false p)
neither false b p q = q

module _ (R : Run) (L : Laws R) where
  held_on : (c : ℕ) (r : Right) (n d : ℕ) → (R.begins (suc n) c ≡ false) → (R.holds (suc n) c d r ≡ true) → Held R c r n d → Held R c r (suc n) d
  held_on c r n d nb h (since_start s b w) = since_start s b (longer _ _ _ _ w h nb)
  held_on c r n d nb h (by_receive k m b u x w g) = by_receive k m b u x (longer _ _ _ _ w h nb) g

  gift_on : (c : ℕ) (r : Right) (n m d : ℕ) → (R.begins (suc n) c ≡ false) → (R.makes (suc n) c m ≡ false) → (R.offers (suc n) c m d r ≡ true) → Gift R c r n m d → Gift R c r (suc n) m d
  gift_on c r n m d nb nm h (stood s b w) = stood s b (longer _ _ _ _ w h (neither _ _ nb nm))
  gift_on c r n m d nb nm h (was_made k b x w g) = was_made k b x (longer _ _ _ _ w h (neither _ _ nb nm)) g

  mutual
    pub history : (t c d : ℕ) (r : Right) → (R.holds t c d r ≡ true) → Held R c r t d
    history zero c d r h = since_start zero (L.begins_zero c) (point _ _ zero h)
    history (suc n) c d r h =
        by_test (R.begins (suc n) c)
        (λ b. since_start (suc n) b (point _ _ (suc n) h))
        (λ nb. by_test (R.holds n c d r)
        (λ k. held_on c r n d nb h (history n c d r k))
        (λ nk. by_receive n (R.source (suc n)) nb nk (L.gain n c d r nb nk h).0 (point _ _ (suc n) h)
        (gifts n c (R.source (suc n)) d r (L.gain n c d r nb nk h).1)))

    pub gifts : (t c m d : ℕ) (r : Right) → (R.offers t c m d r ≡ true) → Gift R c r t m d
    gifts zero c m d r h = stood zero (L.begins_zero c) (point _ _ zero h)
    gifts (suc n) c m d r h =
        by_test (R.begins (suc n) c)
        (λ b. stood (suc n) b (point _ _ (suc n) h))
        (λ nb. by_test (R.makes (suc n) c m)
        (λ x. was_made n nb x (point _ _ (suc n) h) (history n c m r (L.made n c m d r nb x h)))
        (λ nx. gift_on c r n m d nb nx h (gifts n c m d r (L.kept n c m d r nb nx h))))

  -- what a history says at its own end
  pub held_holds : {c : ℕ} {r : Right} {t d : ℕ} → Held R c r t d → (R.holds t c d r ≡ true)
  held_holds {c} {r} {t} {d} (since_start s b w) = w.unbroken t w.ordered (le_refl t)
  held_holds {c} {r} {t} {d} (by_receive n m b u x w g) = w.unbroken t w.ordered (le_refl t)
