-- The path of a history, computed backwards by two functions, of holdings and of gifts, that call each other while the
-- step number falls; and every history has exactly the lines that they compute, so the path is unique. Assumes nothing.
use mathlib.Core.Path.{◌≡◌, refl, sym, ap, ◌∙◌}
use Prim.Native.Nat.{ℕ, zero, suc, ◌≤◌}
use mathlib.Core.Bool.{Bool, true, false, ◌||◌, true≢false}
use mathlib.Core.List.{List, [], ◌∷◌}
use native.Mathlib.Omega.{arith}
use native.Mathlib.Nat.{le_refl}
use native.Mathlib.Decide.{dec_le}
use Rattle.history.specs.History.{Right, Run, Stretch, Held, Gift, since_start, by_receive, stood, was_made, Line, held, gift, held_lines, gift_lines}
use Rattle.history.proofs.Theorem.{Laws, history}

module _ (R : Run) (c : ℕ) (r : Right) where
  unfoldable mutual
    -- the path of what d holds at time t
    pub held_path : (t d : ℕ) → List Line
    held_path zero d = held d zero ∷ []
    held_path (suc n) d =
        elim (R.begins (suc n) c) [
          | true ↦ held d (suc n) ∷ []
          | false ↦ elim (R.holds n c d r) [
            | true ↦ held_path n d
            | false ↦ held d (suc n) ∷ gift_path n (R.source (suc n))
          ]
        ]

    -- the path of what m has granted at time t
    pub gift_path : (t m : ℕ) → List Line
    gift_path zero m = gift m zero ∷ []
    gift_path (suc n) m =
        elim (R.begins (suc n) c) [
          | true ↦ gift m (suc n) ∷ []
          | false ↦ elim (R.makes (suc n) c m) [
            | true ↦ gift m (suc n) ∷ held_path n m
            | false ↦ gift_path n m
          ]
        ]

  -- ---- the functions, a step at a time

  held_begin : (s d : ℕ) → R.begins s c ≡ true → held_path s d ≡ held d s ∷ []
  unfolding held_path
  held_begin zero d b = refl
  held_begin (suc n) d b = rw (b, held_path)

  held_step : (n d : ℕ) → R.begins (suc n) c ≡ false → R.holds n c d r ≡ true → held_path (suc n) d ≡ held_path n d
  unfolding held_path
  held_step n d b h = rw (b, h, held_path)

  held_gain : (n d : ℕ) → R.begins (suc n) c ≡ false → R.holds n c d r ≡ false → held_path (suc n) d ≡ held d (suc n) ∷ gift_path n (R.source (suc n))
  unfolding held_path
  held_gain n d b h = rw (b, h, held_path)

  gift_begin : (s m : ℕ) → R.begins s c ≡ true → gift_path s m ≡ gift m s ∷ []
  unfolding held_path
  gift_begin zero m b = refl
  gift_begin (suc n) m b = rw (b, gift_path)

  gift_made : (n m : ℕ) → R.begins (suc n) c ≡ false → R.makes (suc n) c m ≡ true → gift_path (suc n) m ≡ gift m (suc n) ∷ held_path n m
  unfolding held_path
  gift_made n m b x = rw (b, x, gift_path)

  gift_step : (n m : ℕ) → R.begins (suc n) c ≡ false → R.makes (suc n) c m ≡ false → gift_path (suc n) m ≡ gift_path n m
  unfolding held_path
  gift_step n m b x = rw (b, x, gift_path)

  -- ---- over a stretch

  shorter : {P Q : ℕ → Bool} {s n : ℕ} → s ≤ n → Stretch P Q s (suc n) → Stretch P Q s n
  shorter h w = record { ordered = h; unbroken = λ i a b. w.unbroken i a (omega arith); undisturbed = λ i a b. w.undisturbed i a (omega arith) }

  left : (a b : Bool) → (a || b) ≡ false → a ≡ false
  left true b e = e
  left false b e = refl

  right : (a b : Bool) → (a || b) ≡ false → b ≡ false
  right true b e = absurd (true≢false e)
  right false b e = e

  held_stretch : (t s d : ℕ) → Stretch (λ i. R.holds i c d r) (λ i. R.begins i c) s t → held_path t d ≡ held_path s d
  held_stretch zero s d w = ap (λ (j : ℕ). held_path j d) (omega arith)
  held_stretch (suc n) s d w =
      elim (dec_le s n) [
        | yes h ↦ held_step n d (w.undisturbed (suc n) (omega arith) (le_refl (suc n))) (w.unbroken n h (omega arith)) ∙ held_stretch n s d (shorter h w)
        | no h ↦ ap (λ (j : ℕ). held_path j d) (omega arith)
      ]

  gift_stretch : (t s m d : ℕ) → Stretch (λ i. R.offers i c m d r) (λ i. R.begins i c || R.makes i c m) s t → gift_path t m ≡ gift_path s m
  gift_stretch zero s m d w = ap (λ (j : ℕ). gift_path j m) (omega arith)
  gift_stretch (suc n) s m d w =
      elim (dec_le s n) [
        | yes h ↦
            (let q : (R.begins (suc n) c || R.makes (suc n) c m) ≡ false = w.undisturbed (suc n) (omega arith) (le_refl (suc n)) in
            gift_step n m (left (R.begins (suc n) c) (R.makes (suc n) c m) q) (right (R.begins (suc n) c) (R.makes (suc n) c m) q) ∙ gift_stretch n s m d (shorter h w))
        | no h ↦ ap (λ (j : ℕ). gift_path j m) (omega arith)
      ]

  -- ---- every history has the lines that the functions compute

  module _ (L : Laws R) where
    mutual
      unfolding held_lines

      pub held_exact : {t d : ℕ} (w : Held R c r t d) → held_lines R c r w ≡ held_path t d
      held_exact {t} {d} (since_start s b w) = sym (held_stretch t s d w ∙ held_begin s d b)
      held_exact {t} {d} (by_receive n m b u x w g) =
          ap (λ (l : List Line). held d (suc n) ∷ l) (gift_exact g ∙ ap (gift_path n) (L.named (suc n) c d m x))
          ∙ sym (held_stretch t (suc n) d w ∙ held_gain n d b u)

      pub gift_exact : {t m d : ℕ} (w : Gift R c r t m d) → gift_lines R c r w ≡ gift_path t m
      gift_exact {t} {m} {d} (stood s b w) = sym (gift_stretch t s m d w ∙ gift_begin s m b)
      gift_exact {t} {m} {d} (was_made n b x w h) =
          ap (λ (l : List Line). gift m (suc n) ∷ l) (held_exact h)
          ∙ sym (gift_stretch t (suc n) m d w ∙ gift_made n m b x)

    -- what is held at time t has a history, and the path printed is its lines
    pub path_of : (t d : ℕ) → R.holds t c d r ≡ true → (w : Held R c r t d) × (held_lines R c r w ≡ held_path t d)
    path_of t d h = let w : Held R c r t d = history R L t c d r h in (w, held_exact w)
