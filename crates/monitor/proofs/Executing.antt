-- Laws of an instruction given as four numbers, past checks 1, 2 and 3. Assumes nothing.
use Prim.Native.Nat.{ℕ, ◌≤◌}
use mathlib.Core.Path.{◌≡◌, refl, sym, ap, ◌∙◌, subst}
use mathlib.Core.Logic.{◌⊎◌, inl, inr}
use native.Mathlib.Omega.{arith}
use borrow.Author.Tests.{ne_eqb}
use Rattle.rules.specs.Numbers.{State, Tables}
use Rattle.rules.specs.Refusals.{number_of, no_such_instruction, bad_operand, Outcome, first_failing, answered, first_checks}
use Rattle.rules.specs.Instructions.{Formed, well_formed, ill_formed, decoded}
use Rattle.rules.specs.Calls.{instruction, formed_in, instruction_checks, instruction_done, done, performed}
use Rattle.rules.specs.Instructions.{Decoded, Kind, Refused}
use Rattle.rules.specs.declared.Placed.{Placed}
use Rattle.rules.proofs.Checks.{AllHold, value_zero}
use Rattle.rules.proofs.Decoding.{Sensible, InRange, formed_sensible, kind_formed, refused_formed}
use Rattle.rules.proofs.Performing.{performed_own}
use Rattle.std.specs.Prelude.{Result, Ok, Err}
use Rattle.rules.specs.declared.Registers.{Registers}
use Rattle.monitor.specs.declared.reply.Accepted.{Accepted}
use Rattle.monitor.specs.Answers.{came}
use Rattle.rules.specs.declared.Refusal.{Refusal}
use Rattle.rules.proofs.Refusing.{some_number, no_value}
use Rattle.monitor.specs.Ready.{gave, replied, kind_performed}
use Rattle.monitor.specs.Runs.{listed}

-- a reply says what was given
pub came_replied : (a : Result Accepted Refusal) (before : Registers) (t : Tables) → came (replied a before) t ≡ gave a before t
came_replied (Ok a) before t = refl
came_replied (Err r) before t = refl

-- e was decoded of the four numbers at the position
module _ (s : State) (position number x y z : ℕ) (e : Decoded)
    (q : e ≡ decoded s.lent.M s.registers.current position number x y z) where
  abbrev form : Formed
  form = formed_in s number x y z

  sensible : (f : Formed) → form ≡ f → Sensible s.lent.M s.registers.current f
  sensible f g = subst (Sensible s.lent.M s.registers.current) g (formed_sensible s.lent.M s.registers.current number x y z)

  own : (f : Formed) → form ≡ f → AllHold (first_checks s)
      → performed s (instruction number x y z) ≡ answered s (instruction_checks s f) (instruction_done s f)
  unfolding done
  own f g h =
      performed_own s (instruction number x y z) h ∙ ap (λ (v : Formed). answered s (instruction_checks s v) (instruction_done s v)) g

  -- ---- a kind

  module _ (p : Placed) (k : e ≡ Kind p) where
    well : form ≡ well_formed p.instruction
    well = (kind_formed position form p (sym q ∙ k)).0

    -- its operands are in their ranges
    pub kind_in_range : InRange s.lent.M s.registers.current p.instruction
    kind_in_range = sensible (well_formed p.instruction) well

    -- it stands at the position, and answers as that kind
    pub executed_kind : AllHold (first_checks s) → (o : Outcome) → o ≡ kind_performed s p.instruction
        → listed p.position o ≡ listed position (performed s (instruction number x y z))
    executed_kind h o f =
        let stands = (kind_formed position form p (sym q ∙ k)).1 in
        let same = f ∙ sym (own (well_formed p.instruction) well h) in
        λ i. listed (sym stands i) (same i)

  -- ---- a refusal

  module _ (r : Refusal) (f : e ≡ Refused (number_of r)) where
    ill : form ≡ ill_formed (number_of r)
    ill = refused_formed position form (number_of r) (sym q ∙ f)

    number_large : 4 ≤ number_of r
    number_large = go (sensible (ill_formed (number_of r)) ill)
      where
        go : (number_of r ≡ no_such_instruction) ⊎ (number_of r ≡ bad_operand) → 4 ≤ number_of r
        go (inl a) = omega arith
        go (inr a) = omega arith

    pub executed_refused : AllHold (first_checks s) → gave (Err r) s.registers s.lent ≡ performed s (instruction number x y z)
    unfolding answered first_failing
    executed_refused h =
        let l : 4 ≤ number_of r = number_large in
        rw (own (ill_formed (number_of r)) ill h, ne_eqb (number_of r) 0 (some_number r), value_zero s.lent (number_of r) (omega arith), no_value r (λ t. omega (arith, l, t)))
