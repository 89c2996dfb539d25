-- What a call answers, in the words of code that makes its checks one after the other. Assumes nothing.
use Prim.Native.Nat.{ℕ}
use mathlib.Core.Path.{◌≡◌, refl, sym, ap, ◌∙◌}
use mathlib.Core.List.{List, [], ◌∷◌, ◌++◌}
use mathlib.Core.Bool.{Bool, true, false, cond}
use lib.ListN.{length}
use borrow.Author.Tests.{ne_eqb}
use Rattle.rules.specs.Numbers.{State, read, write}
use Rattle.rules.specs.Refusals.{Check, first_failing, Outcome, refused, answered, first_checks}
use Rattle.rules.specs.Calls.{Action, instruction, block_write, read_view, formed_in, instruction_checks, block_checks, checks, done, performed}
use Rattle.rules.proofs.Checks.{AllHold}

-- ---- a list of checks made in two parts

pub first_part : (l k : List Check) (n : ℕ) → n ≡ first_failing l → (n ≡ 0 → ⊥) → first_failing (l ++ k) ≡ n
unfolding first_failing
first_part [] k n e h = absurd (h e)
first_part (c ∷ l) k n e h = go c.passes e (λ f. first_part l k n f h)
  where
    go : (b : Bool) → n ≡ cond b (first_failing l) c.refusal → (n ≡ first_failing l → first_failing (l ++ k) ≡ n)
        → cond b (first_failing (l ++ k)) c.refusal ≡ n
    go true f r = r f
    go false f r = sym f

pub second_part : (l k : List Check) → AllHold l → first_failing (l ++ k) ≡ first_failing k
unfolding first_failing
second_part [] k a = refl
second_part (c ∷ l) k a = rw a.0 (second_part l k a.1)

-- ---- a call's checks: 1, 2 and 3, then its own

-- from 4 on for an instruction, from 6 on for a block or a view
abbrev pub own_checks : State → Action → List Check
own_checks s (instruction number x y z) = instruction_checks s (formed_in s number x y z)
own_checks s (block_write x bytes) = block_checks write s x (length bytes)
own_checks s (read_view x n) = block_checks read s x n

checks_split : (s : State) (a : Action) → checks s a ≡ first_checks s ++ own_checks s a
unfolding checks
checks_split s (instruction number x y z) = refl
checks_split s (block_write x bytes) = refl
checks_split s (read_view x n) = refl

answered_no : (s : State) (ks : List Check) (o : Outcome) (n : ℕ) → first_failing ks ≡ n → (n ≡ 0 → ⊥) → answered s ks o ≡ refused s n
unfolding answered
answered_no s ks o n e h = rw (e, ne_eqb n 0 h)

answered_same : (s : State) (l k : List Check) (o : Outcome) → first_failing l ≡ first_failing k → answered s l o ≡ answered s k o
unfolding answered
answered_same s l k o e = rw e

-- refused by one of the first three checks
pub performed_first : (s : State) (a : Action) (n : ℕ) → n ≡ first_failing (first_checks s) → (n ≡ 0 → ⊥) → performed s a ≡ refused s n
unfolding performed
performed_first s a n e h =
    answered_no s (checks s a) (done s a) n (ap first_failing (checks_split s a) ∙ first_part (first_checks s) (own_checks s a) n e h) h

-- past them, its own checks decide
pub performed_own : (s : State) (a : Action) → AllHold (first_checks s) → performed s a ≡ answered s (own_checks s a) (done s a)
unfolding performed
performed_own s a h =
    answered_same s (checks s a) (own_checks s a) (done s a)
    (ap first_failing (checks_split s a) ∙ second_part (first_checks s) (own_checks s a) h)
