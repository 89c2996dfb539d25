-- Laws of the words for the numbers below a bound. Assumes nothing.
use Prim.Native.Nat.{ℕ, zero, suc, ◌+◌, ◌-◌, ◌≤◌, ◌<◌}
use mathlib.Core.Path.{◌≡◌, refl, sym, ap, ◌∙◌, subst}
use mathlib.Core.Bool.{Bool, true, false, cond, ◌&&◌, true≢false}
use native.Mathlib.Omega.{arith}
use native.Mathlib.Numerals.{add-one}
use native.Mathlib.Nat.{sub-zero}
use lib.Dec.{ltb, eqb}
use borrow.Author.Tests.{ltb-true, ltb-false, eqb-true, eqb-false}
use Rattle.rules.specs.Below.{every, count, lowest_from, lowest}

-- ---- two Booleans

pub and_left : (a b : Bool) → a && b ≡ true → a ≡ true
and_left true b e = refl
and_left false b e = e

pub and_right : (a b : Bool) → a && b ≡ true → b ≡ true
and_right true b e = e
and_right false true e = refl
and_right false false e = e

pub and_both : (a b : Bool) → a ≡ true → b ≡ true → (a && b) ≡ true
and_both true b p q = q
and_both false b p q = p

-- no test gives both answers
pub clash {ℓ} : {X : Type ℓ} (b : Bool) → b ≡ true → b ≡ false → X
clash b p q = absurd (true≢false (sym p ∙ q))

-- what a test answers, with the equation
pub by_test {ℓ} : {X : Type ℓ} (b : Bool) → (b ≡ true → X) → (b ≡ false → X) → X
by_test true f g = f refl
by_test false f g = g refl

-- below suc n: below n, or n itself
pub below_suc {ℓ} : {X : Type ℓ} (k n : ℕ) → k < suc n → (k < n → X) → (k ≡ n → X) → X
below_suc k n h f g = by_test (ltb k n) (λ e. f (ltb-true k n e)) (λ e. g (omega (arith, ltb-false k n e)))

-- ---- every

module _ (p : ℕ → Bool) where
  pub every_none : every p 0 ≡ true
  unfolding every
  every_none = refl

  pub every_more : (k : ℕ) → every p (k + 1) ≡ (every p k && p k)
  unfolding every
  every_more k = rw add-one

  pub every_at : (n k : ℕ) → every p n ≡ true → k < n → p k ≡ true
  unfolding every
  every_at zero k e h = absurd (omega arith)
  every_at (suc n) k e h =
      below_suc k n h (λ l. every_at n k (and_left (every p n) (p n) e) l)
      (λ q. subst (λ (j : ℕ). p j ≡ true) (sym q) (and_right (every p n) (p n) e))

  pub every_all : (n : ℕ) → ((k : ℕ) → k < n → p k ≡ true) → every p n ≡ true
  unfolding every
  every_all zero f = refl
  every_all (suc n) f = and_both (every p n) (p n) (every_all n (λ k h. f k (omega arith))) (f n (omega arith))

module _ (p q : ℕ → Bool) where
  pub every_same : (n : ℕ) → ((k : ℕ) → k < n → p k ≡ q k) → every p n ≡ every q n
  unfolding every
  every_same zero f = refl
  every_same (suc n) f =
      let a : every p n ≡ every q n = every_same n (λ k h. f k (omega arith)) in
      let b : p n ≡ q n = f n (omega arith) in
      rw (a, b)

  pub count_same : (n : ℕ) → ((k : ℕ) → k < n → p k ≡ q k) → count p n ≡ count q n
  unfolding count
  count_same zero f = refl
  count_same (suc n) f =
      let a : count p n ≡ count q n = count_same n (λ k h. f k (omega arith)) in
      let b : p n ≡ q n = f n (omega arith) in
      rw (a, b)

-- ---- count

module _ (p : ℕ → Bool) where
  pub count_more : (k : ℕ) → count p (k + 1) ≡ count p k + cond (p k) 1 0
  unfolding count
  count_more k = rw add-one

  pub count_le : (n : ℕ) → count p n ≤ n
  unfolding count
  count_le zero = omega arith
  count_le (suc n) = go (p n) (count_le n)
    where
      go : (b : Bool) → count p n ≤ n → count p n + cond b 1 0 ≤ suc n
      go true h = omega arith
      go false h = omega arith

  -- nothing passes
  pub count_zero : (n : ℕ) → ((k : ℕ) → k < n → p k ≡ false) → count p n ≡ 0
  unfolding count
  count_zero zero f = refl
  count_zero (suc n) f =
      let a : count p n ≡ 0 = count_zero n (λ k h. f k (omega arith)) in
      let b : p n ≡ false = f n (omega arith) in
      rw (a, b)

  -- nothing passes but d
  pub count_one : (n d : ℕ) → ((k : ℕ) → k < n → (k ≡ d → ⊥) → p k ≡ false) → count p n ≤ 1
  unfolding count
  count_one zero d f = omega arith
  count_one (suc n) d f = by_test (eqb n d) here (there (λ g. count_one n d g))
    where
      last_one : (b : Bool) → count p n ≡ 0 → count p n + cond b 1 0 ≤ 1
      last_one true e = omega arith
      last_one false e = omega arith

      here : eqb n d ≡ true → count p n + cond (p n) 1 0 ≤ 1
      here e = last_one (p n) (count_zero n (λ k h. f k (omega arith) (λ q. omega (arith, eqb-true n d e))))

      there : (((k : ℕ) → k < n → (k ≡ d → ⊥) → p k ≡ false) → count p n ≤ 1) → eqb n d ≡ false → count p n + cond (p n) 1 0 ≤ 1
      there r e =
          let b : p n ≡ false = f n (omega arith) (eqb-false n d e) in
          rw b (omega (arith, r (λ k h. f k (omega arith))))

-- ---- lowest

-- what is left from k on, in a loop's words
left_one : (n k : ℕ) → k < n → n - k ≡ suc (n - (k + 1))
left_one n k h = let q : n - k ≡ n - (k + 1) + 1 = omega arith in q ∙ add-one (n - (k + 1))

module _ (p : ℕ → Bool) where
  pub from_low : (k n : ℕ) → k ≤ lowest_from p k n
  unfolding lowest_from
  from_low k zero = omega arith
  from_low k (suc n) = go (p k) (from_low (suc k) n)
    where
      go : (b : Bool) → suc k ≤ lowest_from p (suc k) n → k ≤ cond b k (lowest_from p (suc k) n)
      go true h = omega arith
      go false h = omega arith

  pub from_high : (k n : ℕ) → lowest_from p k n ≤ k + n
  unfolding lowest_from
  from_high k zero = omega arith
  from_high k (suc n) = go (p k) (from_high (suc k) n)
    where
      go : (b : Bool) → lowest_from p (suc k) n ≤ suc k + n → cond b k (lowest_from p (suc k) n) ≤ k + suc n
      go true h = omega arith
      go false h = omega arith

  pub from_passes : (k n : ℕ) → lowest_from p k n < k + n → p (lowest_from p k n) ≡ true
  unfolding lowest_from
  from_passes k zero h = absurd (omega arith)
  from_passes k (suc n) h = go (p k) refl (λ l. from_passes (suc k) n l) h
    where
      go : (b : Bool) → p k ≡ b → (lowest_from p (suc k) n < suc k + n → p (lowest_from p (suc k) n) ≡ true)
          → cond b k (lowest_from p (suc k) n) < k + suc n → p (cond b k (lowest_from p (suc k) n)) ≡ true
      go true e f l = e
      go false e f l = f (omega arith)

  pub from_before : (k n j : ℕ) → k ≤ j → j < lowest_from p k n → p j ≡ false
  unfolding lowest_from
  from_before k zero j l h = absurd (omega arith)
  from_before k (suc n) j l h = go (p k) refl (λ a b. from_before (suc k) n j a b) h
    where
      go : (b : Bool) → p k ≡ b → (suc k ≤ j → j < lowest_from p (suc k) n → p j ≡ false)
          → j < cond b k (lowest_from p (suc k) n) → p j ≡ false
      go true e f q = absurd (omega arith)
      go false e f q =
          by_test (eqb k j) (λ s. subst (λ (i : ℕ). p i ≡ false) (eqb-true k j s) e)
          (λ s. f (by_test (ltb k j) (λ u. ltb-true k j u) (λ u. absurd (eqb-false k j s (omega (arith, ltb-false k j u))))) q)

  -- a search that has come to k: the lowest of what is left is the lowest of all
  abbrev pub Searched : (n k : ℕ) → Type 0
  Searched n k = lowest_from p k (n - k) ≡ lowest p n

  pub searched_none : (n : ℕ) → Searched n 0
  unfolding lowest
  searched_none n = rw sub-zero

  pub searched_here : (n k : ℕ) → Searched n k → k < n → p k ≡ true → k ≡ lowest p n
  unfolding lowest_from
  searched_here n k s h e = let q : n - k ≡ suc (n - (k + 1)) = left_one n k h in rw (q, e) at s

  pub searched_later : (n k : ℕ) → Searched n k → k < n → p k ≡ false → Searched n (k + 1)
  unfolding lowest_from
  searched_later n k s h e =
      let q : n - k ≡ suc (n - (k + 1)) = left_one n k h in
      ap (λ (j : ℕ). lowest_from p j (n - (k + 1))) (add-one k) ∙ (rw (q, e) at s)

  pub searched_all : (n k : ℕ) → Searched n k → n ≤ k → k ≡ lowest p n
  unfolding lowest_from
  searched_all n k s h = let z : n - k ≡ 0 = omega arith in rw z at s

  pub lowest_le : (n : ℕ) → lowest p n ≤ n
  unfolding lowest
  lowest_le n = omega (arith, from_high 0 n)

  pub lowest_passes : (n : ℕ) → lowest p n < n → p (lowest p n) ≡ true
  unfolding lowest
  lowest_passes n h = from_passes 0 n (omega arith)

  pub lowest_before : (n k : ℕ) → k < lowest p n → p k ≡ false
  unfolding lowest
  lowest_before n k h = from_before 0 n k (omega arith) h

  -- nothing passes exactly where the lowest is n
  pub lowest_all : (n : ℕ) → lowest p n ≡ n → (k : ℕ) → k < n → p k ≡ false
  lowest_all n e k h = lowest_before n k (omega arith)

  pub lowest_none : (n : ℕ) → ((k : ℕ) → k < n → p k ≡ false) → lowest p n ≡ n
  lowest_none n f =
      by_test (ltb (lowest p n) n)
      (λ e. let h : lowest p n < n = ltb-true _ _ e in clash _ (lowest_passes n h) (f (lowest p n) h))
      (λ e. omega (arith, ltb-false (lowest p n) n e, lowest_le n))

  -- what passes first is the lowest
  pub lowest_is : (n i : ℕ) → i < n → p i ≡ true → ((k : ℕ) → k < i → p k ≡ false) → lowest p n ≡ i
  lowest_is n i h e f =
      by_test (ltb (lowest p n) i)
      (λ a. let l : lowest p n < i = ltb-true _ _ a in clash _ (lowest_passes n (omega arith)) (f (lowest p n) l))
      (λ a. by_test (ltb i (lowest p n)) (λ b. clash _ e (lowest_before n i (ltb-true _ _ b)))
      (λ b. omega (arith, ltb-false (lowest p n) i a, ltb-false i (lowest p n) b)))
