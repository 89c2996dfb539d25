-- The checks of every call stand in the refusal list's order, and their numbers are 1 to 13. Assumes nothing.
use Prim.Native.Nat.{ℕ, ◌≤◌}
use mathlib.Core.Path.{◌≡◌, refl, sym, subst}
use mathlib.Core.Logic.{inl, inr}
use mathlib.Core.List.{List, [], ◌∷◌, ◌++◌, map}
use mathlib.Core.Bool.{Bool, true, false, cond, false≢true}
use native.Mathlib.Omega.{arith}
use lib.Dec.{eqb}
use borrow.Author.Tests.{eqb-true}
use Rattle.rules.specs.Numbers.{State}
use Rattle.rules.specs.Refusals.{refusal_list, Check, first_checks}
use Rattle.rules.specs.Instructions.{Formed, well_formed, ill_formed, needs}
use Rattle.rules.specs.Blocks.{block_needs}
use Rattle.rules.specs.Calls.{Action, instruction, block_write, read_view, formed_in, kind_checks, instruction_checks, checks}
use Rattle.rules.specs.declared.Instruction.{Instruction}
use Rattle.rules.specs.declared.Instruction.TheVariants.{Load, Store, Fetch, Switch, Protect, Grant, Receive, Transfer, Invalidate, Revalidate, Exclusive}
use Rattle.rules.proofs.Checks.{Each, Numbered}
use Rattle.rules.proofs.Decoding.{Sensible, formed_sensible}

-- whether the first list's numbers stand in the second, in its order
unfoldable pub in_order : List ℕ → List ℕ → Bool
in_order [] [] = true
in_order (n ∷ ns) [] = false
in_order [] (o ∷ os) = true
in_order (n ∷ ns) (o ∷ os) = cond (eqb n o) (in_order ns os) (in_order (n ∷ ns) os)

abbrev pub Ordered : List Check → Type 0
Ordered ks = in_order (map (λ k. k.refusal) ks) refusal_list ≡ true

-- ---- of an instruction

kind_ordered : (s : State) (i : Instruction) → Ordered (first_checks s ++ kind_checks s i)
unfolding kind_checks needs in_order
kind_ordered s (Load x) = refl
kind_ordered s (Store x y) = refl
kind_ordered s (Fetch x) = refl
kind_ordered s (Switch x y) = refl
kind_ordered s (Protect x y) = refl
kind_ordered s (Grant x y z) = refl
kind_ordered s (Receive x y) = refl
kind_ordered s (Transfer x y z) = refl
kind_ordered s (Invalidate x) = refl
kind_ordered s (Revalidate x) = refl
kind_ordered s (Exclusive x) = refl

formed_ordered : (s : State) (m d : ℕ) (e : Formed) → Sensible m d e → Ordered (first_checks s ++ instruction_checks s e)
unfolding in_order
formed_ordered s m d (well_formed i) h = kind_ordered s i
formed_ordered s m d (ill_formed n) (inl q) = rw q
formed_ordered s m d (ill_formed n) (inr q) = rw q

-- ---- of any call

pub checks_ordered : (s : State) (a : Action) → Ordered (checks s a)
unfolding checks block_needs in_order
checks_ordered s (instruction number x y z) =
    formed_ordered s s.lent.M s.registers.current (formed_in s number x y z)
    (formed_sensible s.lent.M s.registers.current number x y z)
checks_ordered s (block_write x bytes) = refl
checks_ordered s (read_view x n) = refl

-- ---- what stands in the list's order has one of its numbers

in_list : (P : ℕ → Type 0) (order : List ℕ) (ks : List Check) → Each P order → in_order (map (λ k. k.refusal) ks) order ≡ true
    → Each (λ k. P k.refusal) ks
unfolding in_order
in_list P [] [] e o = tt
in_list P [] (k ∷ ks) e o = absurd (false≢true o)
in_list P (n ∷ ns) [] e o = tt
in_list P (n ∷ ns) (k ∷ ks) e o = go (eqb k.refusal n) refl o (λ q. in_list P ns ks e.1 q) (λ q. in_list P ns (k ∷ ks) e.1 q)
  where
    go : (b : Bool) → eqb k.refusal n ≡ b
        → cond b (in_order (map (λ k. k.refusal) ks) ns) (in_order (map (λ k. k.refusal) (k ∷ ks)) ns) ≡ true
        → (in_order (map (λ k. k.refusal) ks) ns ≡ true → Each (λ k. P k.refusal) ks)
        → (in_order (map (λ k. k.refusal) (k ∷ ks)) ns ≡ true → Each (λ k. P k.refusal) (k ∷ ks))
        → Each (λ k. P k.refusal) (k ∷ ks)
    go true t q f g = (subst P (sym (eqb-true k.refusal n t)) e.0, f q)
    go false t q f g = g q

positive : Each (λ n. 1 ≤ n) refusal_list
positive = (omega arith, (omega arith, (omega arith, (omega arith, (omega arith, (omega arith, (omega arith, (omega arith, (omega arith, (omega arith, (omega arith, (omega arith, (omega arith, tt)))))))))))))

pub checks_numbered : (s : State) (a : Action) → Numbered (checks s a)
checks_numbered s a = in_list (λ n. 1 ≤ n) refusal_list (checks s a) positive (checks_ordered s a)

small : Each (λ n. n ≤ 13) refusal_list
small = (omega arith, (omega arith, (omega arith, (omega arith, (omega arith, (omega arith, (omega arith, (omega arith, (omega arith, (omega arith, (omega arith, (omega arith, (omega arith, tt)))))))))))))

pub checks_small : (s : State) (a : Action) → Each (λ k. k.refusal ≤ 13) (checks s a)
checks_small s a = in_list (λ n. n ≤ 13) refusal_list (checks s a) small (checks_ordered s a)
