-- Laws of a list of checks: when all hold, which fails first, and what a call then answers. Assumes nothing.
use Prim.Native.Nat.{ℕ, ◌≤◌}
use mathlib.Core.Path.{◌≡◌, refl, sym, ◌∙◌}
use mathlib.Core.List.{List, [], ◌∷◌, ◌++◌}
use mathlib.Core.Bool.{Bool, true, false, cond}
use native.Mathlib.Omega.{arith}
use lib.Dec.{eqb}
use borrow.Author.Tests.{eqb-true, eqb-false, ne_eqb}
use Rattle.rules.specs.Numbers.{Tables, State}
use Rattle.rules.specs.Refusals.{Check, first_failing, Outcome, refused, refused_value, answered}

-- ---- a property of every entry of a list

abbrev pub Each {ℓ} : {A : Type 0} → (A → Type ℓ) → List A → Type ℓ
Each P [] = Unit
Each P (a ∷ l) = P a × Each P l

pub each_join {ℓ} : {A : Type 0} (P : A → Type ℓ) (l k : List A) → Each P l → Each P k → Each P (l ++ k)
each_join P [] k a b = b
each_join P (x ∷ l) k a b = (a.0, each_join P l k a.1 b)

pub each_left {ℓ} : {A : Type 0} (P : A → Type ℓ) (l k : List A) → Each P (l ++ k) → Each P l
each_left P [] k e = tt
each_left P (x ∷ l) k e = (e.0, each_left P l k e.1)

pub each_right {ℓ} : {A : Type 0} (P : A → Type ℓ) (l k : List A) → Each P (l ++ k) → Each P k
each_right P [] k e = e
each_right P (x ∷ l) k e = each_right P l k e.1

pub each_more {ℓ κ} : {A : Type 0} (P : A → Type ℓ) (Q : A → Type κ) (l : List A) → ((a : A) → P a → Q a) → Each P l → Each Q l
each_more P Q [] f e = tt
each_more P Q (x ∷ l) f e = (f x e.0, each_more P Q l f e.1)

-- ---- all hold, or one fails first

abbrev pub Holds : Check → Type 0
Holds k = k.passes ≡ true

abbrev pub AllHold : List Check → Type 0
AllHold = Each Holds

-- n is the refusal of the first check to fail
pub data FirstToFail : List Check → ℕ → Type 0 where
  fails_here : {k : Check} {ks : List Check} → k.passes ≡ false → FirstToFail (k ∷ ks) k.refusal
  fails_later : {k : Check} {ks : List Check} {n : ℕ} → k.passes ≡ true → FirstToFail ks n → FirstToFail (k ∷ ks) n

-- no check has the number of acceptance
abbrev pub Numbered : List Check → Type 0
Numbered = Each (λ k. 1 ≤ k.refusal)

pub all_accept : (ks : List Check) → AllHold ks → first_failing ks ≡ 0
unfolding first_failing
all_accept [] a = refl
all_accept (k ∷ ks) a = rw a.0 (all_accept ks a.1)

pub accept_all : (ks : List Check) → Numbered ks → first_failing ks ≡ 0 → AllHold ks
unfolding first_failing
accept_all [] u e = tt
accept_all (k ∷ ks) u e = go k.passes refl e (λ f. accept_all ks u.1 f)
  where
    go : (b : Bool) → k.passes ≡ b → cond b (first_failing ks) k.refusal ≡ 0 → (first_failing ks ≡ 0 → AllHold ks) → AllHold (k ∷ ks)
    go true p f r = (p, r f)
    go false p f r = absurd (omega (arith, u.0))

pub first_fails : (ks : List Check) → (first_failing ks ≡ 0 → ⊥) → FirstToFail ks (first_failing ks)
unfolding first_failing
first_fails [] h = absurd (h refl)
first_fails (k ∷ ks) h = go k.passes refl h (λ f. first_fails ks f)
  where
    go : (b : Bool) → k.passes ≡ b → (cond b (first_failing ks) k.refusal ≡ 0 → ⊥)
        → ((first_failing ks ≡ 0 → ⊥) → FirstToFail ks (first_failing ks)) → FirstToFail (k ∷ ks) (cond b (first_failing ks) k.refusal)
    go true p f r = fails_later p (r f)
    go false p f r = fails_here p

-- what holds of every check's number holds of the one that fails first
fails_has : (P : ℕ → Type 0) {ks : List Check} {n : ℕ} → FirstToFail ks n → Each (λ k. P k.refusal) ks → P n
fails_has P (fails_here p) e = e.0
fails_has P (fails_later p f) e = fails_has P f e.1

pub first_has : (P : ℕ → Type 0) (ks : List Check) → Each (λ k. P k.refusal) ks → (first_failing ks ≡ 0 → ⊥) → P (first_failing ks)
first_has P ks e h = fails_has P (first_fails ks h) e

-- ---- what a call answers

-- a refusal above 2 has value 0
pub value_zero : (t : Tables) (n : ℕ) → 3 ≤ n → refused_value t n ≡ 0
value_zero t n h = let e : (n ≡ 2) → ⊥ = λ q. omega arith in rw (ne_eqb n 2 e)

-- a property of the answer, from a refusal's and from that of what is done once all checks hold
pub answer_case {ℓ} : (P : Outcome → Type ℓ) (s : State) (ks : List Check) (done : Outcome) → Numbered ks
    → ((n : ℕ) → (n ≡ 0 → ⊥) → P (refused s n)) → (AllHold ks → P done) → P (answered s ks done)
unfolding answered
answer_case P s ks done u f g = go (eqb (first_failing ks) 0) refl
  where
    go : (b : Bool) → eqb (first_failing ks) 0 ≡ b → P (cond b done (refused s (first_failing ks)))
    go true e = g (accept_all ks u (eqb-true _ _ e))
    go false e = f (first_failing ks) (eqb-false _ _ e)

-- the answer's number is the first failing check's
pub answer_number : (s : State) (ks : List Check) (done : Outcome) → done.number ≡ 0 → (answered s ks done).number ≡ first_failing ks
unfolding answered
answer_number s ks done d = go (eqb (first_failing ks) 0) refl
  where
    go : (b : Bool) → eqb (first_failing ks) 0 ≡ b → (cond b done (refused s (first_failing ks))).number ≡ first_failing ks
    go true e = d ∙ sym (eqb-true _ _ e)
    go false e = refl

-- an answer that is no acceptance is the refusal
pub answer_refused : (s : State) (ks : List Check) (done : Outcome) → (first_failing ks ≡ 0 → ⊥) → answered s ks done ≡ refused s (first_failing ks)
unfolding answered
answer_refused s ks done h = go (eqb (first_failing ks) 0) refl
  where
    go : (b : Bool) → eqb (first_failing ks) 0 ≡ b → cond b done (refused s (first_failing ks)) ≡ refused s (first_failing ks)
    go true e = absurd (h (eqb-true _ _ e))
    go false e = refl

-- an answer whose checks all hold is what is done
pub answer_done : (s : State) (ks : List Check) (done : Outcome) → first_failing ks ≡ 0 → answered s ks done ≡ done
unfolding answered
answer_done s ks done e = rw e
