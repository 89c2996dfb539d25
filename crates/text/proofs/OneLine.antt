-- A line is read by itself: where two texts do not differ up to the next LF, the same line stands in both. Assumes nothing.
use Prim.Native.Nat.{ℕ, zero, suc, ◌+◌, ◌-◌, ◌*◌}
use mathlib.Core.Path.{◌≡◌, refl, sym, ap, ◌∙◌}
use mathlib.Core.List.{List, [], ◌∷◌}
use mathlib.Core.Bool.{Bool, true, false, not, ◌&&◌, true≢false}
use native.Mathlib.Omega.{arith}
use native.Mathlib.Nat.{add-zero}
use lib.ListN.{length, drop, set}
use lib.Seq.{drop-drop}
use lib.Dec.{leb, eqb}
use borrow.Author.Tests.{leb-true, eqb-true, eq-eqb}
use Rattle.text.specs.Number.{peek_at, is_digit, digits_in, value_from, starts_number, number_at, Number, Bad}
use Rattle.text.specs.Line.{tab, line_feed, zeros5, word_at, fields_at, row_at}
use Rattle.text.proofs.Cases.{by_test, by_field, and_left, and_right}
use Rattle.text.proofs.Digits.{peek_drop, run_stops}

-- a relation of what is left of two texts: A within a line, and B behind its LF
pub record Linewise (A B : List ℕ → List ℕ → Type 0) : Type 0 where
  pub byte : (l m : List ℕ) → A l m → peek_at l 0 ≡ peek_at m 0
  pub step : (l m : List ℕ) → A l m → (peek_at l 0 ≡ line_feed → ⊥) → A (drop 1 l) (drop 1 m)
  pub feed : (l m : List ℕ) → A l m → peek_at l 0 ≡ line_feed → B (drop 1 l) (drop 1 m)

-- a word without LF
abbrev pub no_feed : List ℕ → Bool
no_feed [] = true
no_feed (x ∷ w) = not (eqb x line_feed) && no_feed w

-- LF is no digit
digit_no_feed : (c : ℕ) → is_digit c ≡ true → c ≡ line_feed → ⊥
digit_no_feed c h e = omega (arith, leb-true 48 c (and_left (leb 48 c) (leb c 57) h))

-- the place after a number
number_place : (s : List ℕ) (at : ℕ) {x n : ℕ} → number_at s at ≡ Number x n → at + digits_in (drop at s) ≡ n
unfolding number_at
number_place s at {x} {n} e =
    let l = drop at s in
    by_test (starts_number l)
    (λ h. let same : Number (value_from 0 l) (at + digits_in l) ≡ Number x n = sym (rw h) ∙ e in cc)
    (λ h. let same : Bad ≡ Number x n = sym (rw h) ∙ e in cc)

module _ {A B : List ℕ → List ℕ → Type 0} (r : Linewise A B) where
  -- ---- a run of digits

  abbrev SameRun : (l m : List ℕ) (v : ℕ) → Type 0
  SameRun l m v =
      (digits_in l ≡ digits_in m) × (value_from v l ≡ value_from v m) × A (drop (digits_in l) l) (drop (digits_in l) m)

  run_none : (l m : List ℕ) (v : ℕ) → A l m → is_digit (peek_at l 0) ≡ false → SameRun l m v
  run_none l m v a h =
      let p = run_stops v l h in
      let q = run_stops v m (ap is_digit (sym (r.byte l m a)) ∙ h) in
      (p.0 ∙ sym q.0, p.1 ∙ sym q.1, rw p.0 a)

  run_same : (l m : List ℕ) (v : ℕ) → A l m → SameRun l m v
  run_same [] m v a = run_none [] m v a refl
  run_same (c ∷ l) [] v a = run_none (c ∷ l) [] v a (ap is_digit (r.byte (c ∷ l) [] a))
  run_same (c ∷ l) (d ∷ m) v a =
      by_test (is_digit c)
      (λ h.
      let same : c ≡ d = r.byte (c ∷ l) (d ∷ m) a in
      let rest = run_same l m (10 * v + (c - 48)) (r.step (c ∷ l) (d ∷ m) a (digit_no_feed c h)) in
      rw (← same, h) (ap suc rest.0, rest.1, rest.2))
      (λ h. run_none (c ∷ l) (d ∷ m) v a h)

  module _ (s t : List ℕ) where
    -- the relation at a place
    abbrev Here : ℕ → Type 0
    Here p = A (drop p s) (drop p t)

    abbrev Behind : ℕ → Type 0
    Behind p = B (drop p s) (drop p t)

    byte_same : (p : ℕ) → Here p → peek_at s p ≡ peek_at t p
    byte_same p a = sym (peek_drop s p) ∙ r.byte (drop p s) (drop p t) a ∙ peek_drop t p

    byte_on : (p : ℕ) → Here p → (peek_at s p ≡ line_feed → ⊥) → Here (p + 1)
    byte_on p a h =
        rw (drop-drop 1 p s, drop-drop 1 p t) at (r.step (drop p s) (drop p t) a (λ e. h (sym (peek_drop s p) ∙ e)))

    byte_ends : (p : ℕ) → Here p → peek_at s p ≡ line_feed → Behind (p + 1)
    byte_ends p a e =
        rw (drop-drop 1 p s, drop-drop 1 p t) at (r.feed (drop p s) (drop p t) a (peek_drop s p ∙ e))

    -- ---- a number

    number_same : (p : ℕ) → Here p → number_at s p ≡ number_at t p
    unfolding number_at
    number_same p a =
        let run = run_same (drop p s) (drop p t) 0 a in rw (run.0, run.1, r.byte (drop p s) (drop p t) a)

    number_on : (p : ℕ) → Here p → {x n : ℕ} → number_at s p ≡ Number x n → Here n
    number_on p a e =
        let d = digits_in (drop p s) in
        let on = rw (drop-drop d p s, drop-drop d p t) at (run_same (drop p s) (drop p t) 0 a).2 in
        rw (number_place s p e) at on

    -- ---- the numbers of a line, and its LF

    fields_same : (k j : ℕ) (v : List ℕ) (p : ℕ) → Here p → fields_at s k j v p ≡ fields_at t k j v p
    fields_same zero j v p a = rw (byte_same p a)
    fields_same (suc k) j v p a =
        by_test (eqb (peek_at s p) tab)
        (λ h.
        let on : Here (p + 1) = byte_on p a (λ e. omega (arith, eqb-true (peek_at s p) tab h)) in
        by_field (number_at s (p + 1))
        (λ x n f.
        rw (← byte_same p a, h, ← number_same (p + 1) on, f) (fields_same k (j + 1) (set v j x) n (number_on (p + 1) on f)))
        (λ f. rw (← byte_same p a, h, ← number_same (p + 1) on, f)))
        (λ h. rw (← byte_same p a, h))

    fields_end : (k j : ℕ) (v : List ℕ) (p : ℕ) → Here p → (fields_at s k j v p).ok ≡ true → Behind (fields_at s k j v p).next
    fields_end zero j v p a e =
        by_test (eqb (peek_at s p) line_feed)
        (λ h. rw h (byte_ends p a (eqb-true (peek_at s p) line_feed h)))
        (λ h. absurd (true≢false (sym e ∙ rw h)))
    fields_end (suc k) j v p a e =
        by_test (eqb (peek_at s p) tab)
        (λ h.
        let on : Here (p + 1) = byte_on p a (λ e. omega (arith, eqb-true (peek_at s p) tab h)) in
        by_field (number_at s (p + 1))
        (λ x n f. rw (h, f) (fields_end k (j + 1) (set v j x) n (number_on (p + 1) on f) (rw (h, f) at e)))
        (λ f. absurd (true≢false (sym e ∙ rw (h, f)))))
        (λ h. absurd (true≢false (sym e ∙ rw h)))

    -- ---- the keyword

    word_same : (w : List ℕ) (p : ℕ) → no_feed w ≡ true → Here p
        → (word_at s p w ≡ word_at t p w) × (word_at s p w ≡ true → Here (p + length w))
    word_same [] p f a = (refl, λ _. rw add-zero a)
    word_same (x ∷ w) p f a =
        by_test (eqb (peek_at s p) x)
        (λ h.
        let e : peek_at s p ≡ x = eqb-true (peek_at s p) x h in
        let plain : x ≡ line_feed → ⊥ = λ q.
        true≢false (sym (and_left (not (eqb x line_feed)) (no_feed w) f) ∙ rw (eq-eqb x line_feed q)) in
        let rest = word_same w (p + 1) (and_right (not (eqb x line_feed)) (no_feed w) f) (byte_on p a (λ q. plain (sym e ∙ q))) in
        let place : p + 1 + length w ≡ p + suc (length w) = omega arith in
        rw (← byte_same p a, h) (rest.0, λ q. rw place at (rest.1 q)))
        (λ h. (rw (← byte_same p a, h), λ q. absurd (true≢false (sym q ∙ rw h))))

    -- ---- the line

    module _ (w : List ℕ) (k p : ℕ) (f : no_feed w ≡ true) (a : Here p) where
      pub row_same : row_at s p w k ≡ row_at t p w k
      unfolding row_at
      row_same =
          by_test (leb k 5 && word_at s p w)
          (λ h.
          rw (← (word_same w p f a).0, h)
          (fields_same k 0 zeros5 (p + length w) ((word_same w p f a).1 (and_right (leb k 5) (word_at s p w) h))))
          (λ h. rw (← (word_same w p f a).0, h))

      pub row_end : (row_at s p w k).ok ≡ true → Behind (row_at s p w k).next
      unfolding row_at
      row_end e =
          by_test (leb k 5 && word_at s p w)
          (λ h.
          rw h
          (fields_end k 0 zeros5 (p + length w) ((word_same w p f a).1 (and_right (leb k 5) (word_at s p w) h)) (rw h at e)))
          (λ h. absurd (true≢false (sym e ∙ rw h)))
