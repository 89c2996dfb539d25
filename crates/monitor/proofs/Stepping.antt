-- Laws of one well-formed instruction, in the words of code that finds its cell, judges it and applies it.
-- Assumes nothing.
use Rattle.std.specs.Prelude.{Option, Some, None, Err}
use Prim.Native.Nat.{ℕ, ◌≤◌}
use mathlib.Core.Path.{◌≡◌, sym, ◌∙◌, subst}
use mathlib.Core.Bool.{false}
use native.Mathlib.Omega.{arith}
use borrow.Author.Tests.{ne_eqb}
use Rattle.rules.specs.Numbers.{State, Tables}
use Rattle.rules.specs.Refusals.{number_of, Check, first_failing, answered}
use Rattle.rules.specs.Instructions.{address_of, covered, needs}
use Rattle.rules.specs.Calls.{kind_checks, done_at}
use Rattle.rules.specs.declared.Instruction.{Instruction}
use Rattle.rules.specs.declared.Instruction.TheVariants.{Load, Store, Fetch, Switch, Protect, Grant, Receive, Transfer, Invalidate, Revalidate, Exclusive}
use Rattle.rules.proofs.Checks.{Each, each_more, AllHold, accept_all, first_has, value_zero}
use Rattle.rules.proofs.Refusing.{some_number, no_value}
use Rattle.rules.specs.declared.Refusal.{Refusal}
use Rattle.rules.specs.declared.Refusal.TheVariants.{NotCovered}
use Rattle.monitor.specs.Ready.{gave, kind_performed}
use Rattle.monitor.specs.Leaves.{found_in}
use Rattle.monitor.proofs.Searching.{FoundAt, found_at, nowhere_uncovered}

-- ---- what the search for the cell says

-- r is the answer of a search for the address of i
module _ (t : Tables) (i : Instruction) {r : Option ℕ} (x : ℕ) (a : x ≡ address_of i) (e : r ≡ found_in t.first t.last x) where
  pub found_for : (c : ℕ) → r ≡ Some c → FoundAt t (address_of i) c
  found_for c f = subst (λ (k : ℕ). FoundAt t k c) a (found_at t x _ e c f)

  pub found_nothing : r ≡ None → covered t (address_of i) ≡ false
  found_nothing f = subst (λ (k : ℕ). covered t k ≡ false) a (nowhere_uncovered t x _ e f)

-- ---- the checks from 6 on

needs_above : (t : Tables) (d c : ℕ) (i : Instruction) → Each (λ k. 7 ≤ k.refusal) (needs t d c i)
unfolding needs
needs_above t d c (Load x) = (omega arith, (omega arith, tt))
needs_above t d c (Store x y) = (omega arith, (omega arith, tt))
needs_above t d c (Fetch x) = (omega arith, (omega arith, (omega arith, tt)))
needs_above t d c (Switch x y) = (omega arith, (omega arith, (omega arith, (omega arith, tt))))
needs_above t d c (Protect x y) = (omega arith, (omega arith, (omega arith, tt)))
needs_above t d c (Grant x y z) = (omega arith, (omega arith, tt))
needs_above t d c (Receive x y) = (omega arith, (omega arith, tt))
needs_above t d c (Transfer x y z) = (omega arith, (omega arith, tt))
needs_above t d c (Invalidate x) = (omega arith, (omega arith, (omega arith, tt)))
needs_above t d c (Revalidate x) = (omega arith, (omega arith, tt))
needs_above t d c (Exclusive x) = (omega arith, (omega arith, tt))

-- ---- what a well-formed instruction answers

module _ (s : State) (i : Instruction) where
  pub stepped_nowhere : covered s.lent (address_of i) ≡ false → gave (Err NotCovered) s.registers s.lent ≡ kind_performed s i
  unfolding answered kind_checks first_failing
  stepped_nowhere e = rw e

  module _ (c n : ℕ) (f : FoundAt s.lent (address_of i) c) (q : n ≡ first_failing (needs s.lent s.registers.current c i)) where
    first_here : first_failing (kind_checks s i) ≡ n
    unfolding kind_checks first_failing
    first_here = rw (f.covers, f.same) (sym q)

    pub stepped_refused : (f : Refusal) → n ≡ number_of f → gave (Err f) s.registers s.lent ≡ kind_performed s i
    unfolding answered
    stepped_refused f e =
        let h : n ≡ 0 → ⊥ = λ z. some_number f (sym e ∙ z) in
        let k : 7 ≤ n = subst (λ (j : ℕ). 7 ≤ j) (sym q) (first_has (λ j. 7 ≤ j) _ (needs_above s.lent s.registers.current c i) (λ z. h (q ∙ z))) in
        rw (no_value f (λ t. omega (arith, e, t, k)), ← e, first_here, ne_eqb n 0 h, value_zero s.lent n (omega arith))

    pub stepped_applied : n ≡ 0 → done_at s c i ≡ kind_performed s i
    unfolding answered
    stepped_applied z = rw (first_here, z, f.same)

    pub needs_hold : n ≡ 0 → AllHold (needs s.lent s.registers.current c i)
    needs_hold z = accept_all _ (each_more {A = Check} (λ k. 7 ≤ k.refusal) (λ k. 1 ≤ k.refusal) (needs s.lent s.registers.current c i) (λ k l. omega arith) (needs_above s.lent s.registers.current c i)) (sym q ∙ z)
