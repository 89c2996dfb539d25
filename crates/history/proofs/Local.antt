-- The local laws of the rules: how one call gains a right, makes a grant, and keeps one. Assumes nothing.
use Prim.Native.Nat.{ℕ}
use mathlib.Core.Path.{◌≡◌}
use mathlib.Core.List.{◌++◌}
use mathlib.Core.Bool.{true, false, ◌&&◌, false≢true}
use lib.Dec.{eqb}
use borrow.Author.Tests.{eqb-true}
use Rattle.rules.specs.Numbers.{State}
use Rattle.rules.specs.Refusals.{first_checks}
use Rattle.rules.specs.Instructions.{Formed, well_formed, ill_formed, address_of, cell_at}
use Rattle.rules.specs.Blocks.{block_written}
use Rattle.rules.specs.Calls.{Action, instruction, block_write, read_view, formed_in, kind_checks, done_at, instruction_checks, instruction_done, checks, done, performed}
use Rattle.rules.specs.declared.Instruction.{Instruction}
use Rattle.rules.proofs.Below.{and_left, and_right, clash}
use Rattle.rules.proofs.Checks.{AllHold}
use Rattle.rules.proofs.Decoding.{InRange, Sensible, formed_sensible}
use Rattle.rules.proofs.Kept.{begun, covering}
use Rattle.rules.proofs.Laws.{by_outcome}
use Rattle.history.specs.History.{Right}
use Rattle.history.specs.Shown.{holds_in, offers_in, Deed, taking, making, neither, formed_deed, deed_in, is_accepted, takes_by, makes_by, source_of}
use Rattle.history.proofs.Accepted.{Accepted, kind_gain, kind_made, kind_kept}

-- ---- of any call

-- what all checks of a well-formed instruction say
pub accepted_kind : (s : State) (i : Instruction) → InRange s.lent.M s.registers.current i → AllHold (first_checks s ++ kind_checks s i)
    → Accepted s i
unfolding kind_checks
accepted_kind s i h a =
    record {
      begun = begun s (kind_checks s i) a;
      range = h;
      cell = (covering s.lent (address_of i) a.1.1.1.0).cell;
      covers = covering s.lent (address_of i) a.1.1.1.0;
      needed = a.1.1.1.1;
    }

-- the same, of four numbers that stand for an instruction; b tells whether the call is accepted
module _ (s : State) where
  abbrev current : ℕ
  current = s.registers.current

  formed_gain : (d : Formed) → Sensible s.lent.M s.registers.current d → AllHold (first_checks s ++ instruction_checks s d)
      → (k e : ℕ) (r : Right) → holds_in s.lent k e r ≡ false → holds_in (instruction_done s d).after.lent k e r ≡ true
      → (eqb (instruction_done s d).number 0 && takes_by s (formed_deed d) k e (source_of (formed_deed d)) ≡ true)
      × (offers_in s.lent k (source_of (formed_deed d)) e r ≡ true)
  unfolding done_at formed_deed
  formed_gain (well_formed i) v a k e r n h = kind_gain s i (accepted_kind s i v a) k e r n h
  formed_gain (ill_formed j) v a k e r n h = clash _ h n

  formed_made : (d : Formed) → Sensible s.lent.M s.registers.current d → AllHold (first_checks s ++ instruction_checks s d)
      → (k m e : ℕ) (r : Right) → eqb (instruction_done s d).number 0 && makes_by s (formed_deed d) k m ≡ true
      → offers_in (instruction_done s d).after.lent k m e r ≡ true → holds_in s.lent k m r ≡ true
  unfolding done_at formed_deed makes_by
  formed_made (well_formed i) v a k m e r b h = kind_made s i (accepted_kind s i v a) k m e r b h
  formed_made (ill_formed j) v a k m e r b h = absurd (false≢true b)

  formed_kept : (d : Formed) → Sensible s.lent.M s.registers.current d → AllHold (first_checks s ++ instruction_checks s d)
      → (k m e : ℕ) (r : Right) → eqb (instruction_done s d).number 0 && makes_by s (formed_deed d) k m ≡ false
      → offers_in (instruction_done s d).after.lent k m e r ≡ true → offers_in s.lent k m e r ≡ true
  unfolding done_at formed_deed
  formed_kept (well_formed i) v a k m e r b h = kind_kept s i (accepted_kind s i v a) k m e r b h
  formed_kept (ill_formed j) v a k m e r b h = h

  sensible : (number x y z : ℕ) → Sensible s.lent.M s.registers.current (formed_in s number x y z)
  sensible number x y z = formed_sensible s.lent.M s.registers.current number x y z

  done_gain : (a : Action) → AllHold (checks s a) → (k e : ℕ) (r : Right) → holds_in s.lent k e r ≡ false
      → holds_in (done s a).after.lent k e r ≡ true
      → (eqb (done s a).number 0 && takes_by s (deed_in s a) k e (source_of (deed_in s a)) ≡ true)
      × (offers_in s.lent k (source_of (deed_in s a)) e r ≡ true)
  unfolding checks done deed_in holds_in block_written
  done_gain (instruction number x y z) v k e r n h = formed_gain (formed_in s number x y z) (sensible number x y z) v k e r n h
  done_gain (block_write x bytes) v k e r n h = clash _ h n
  done_gain (read_view x j) v k e r n h = clash _ h n

  done_made : (a : Action) → AllHold (checks s a) → (k m e : ℕ) (r : Right)
      → eqb (done s a).number 0 && makes_by s (deed_in s a) k m ≡ true
      → offers_in (done s a).after.lent k m e r ≡ true → holds_in s.lent k m r ≡ true
  unfolding checks done deed_in makes_by
  done_made (instruction number x y z) v k m e r b h = formed_made (formed_in s number x y z) (sensible number x y z) v k m e r b h
  done_made (block_write x bytes) v k m e r b h = absurd (false≢true b)
  done_made (read_view x j) v k m e r b h = absurd (false≢true b)

  done_kept : (a : Action) → AllHold (checks s a) → (k m e : ℕ) (r : Right)
      → eqb (done s a).number 0 && makes_by s (deed_in s a) k m ≡ false
      → offers_in (done s a).after.lent k m e r ≡ true → offers_in s.lent k m e r ≡ true
  unfolding checks done deed_in offers_in block_written
  done_kept (instruction number x y z) v k m e r b h = formed_kept (formed_in s number x y z) (sensible number x y z) v k m e r b h
  done_kept (block_write x bytes) v k m e r b h = h
  done_kept (read_view x j) v k m e r b h = h

  -- a right gained was taken by an accepted receive, from a grant of it made out to who gained it
  pub call_gain : (a : Action) (k e : ℕ) (r : Right) → holds_in s.lent k e r ≡ false
      → holds_in (performed s a).after.lent k e r ≡ true
      → (is_accepted s a && takes_by s (deed_in s a) k e (source_of (deed_in s a)) ≡ true)
      × (offers_in s.lent k (source_of (deed_in s a)) e r ≡ true)
  unfolding is_accepted
  call_gain a k e r n h =
      by_outcome
      (λ o. holds_in o.after.lent k e r ≡ true
      → (eqb o.number 0 && takes_by s (deed_in s a) k e (source_of (deed_in s a)) ≡ true)
      × (offers_in s.lent k (source_of (deed_in s a)) e r ≡ true))
      s a (λ j z q. clash _ q n) (λ v q. done_gain a v k e r n q) h

  deed_named : (d : Deed) (k e m : ℕ) → takes_by s d k e m ≡ true → m ≡ source_of d
  unfolding takes_by source_of
  deed_named (taking x y) k e m q = eqb-true m y (and_right (eqb k (cell_at s.lent x) && eqb e s.registers.current) _ q)
  deed_named (making x) k e m q = absurd (false≢true q)
  deed_named neither k e m q = absurd (false≢true q)

  -- a receive takes from the division that it names
  pub call_named : (a : Action) (k e m : ℕ) → is_accepted s a && takes_by s (deed_in s a) k e m ≡ true → m ≡ source_of (deed_in s a)
  call_named a k e m b = deed_named (deed_in s a) k e m (and_right (is_accepted s a) _ b)

  -- the maker of a grant holds what it grants
  pub call_made : (a : Action) (k m e : ℕ) (r : Right) → is_accepted s a && makes_by s (deed_in s a) k m ≡ true
      → offers_in (performed s a).after.lent k m e r ≡ true → holds_in s.lent k m r ≡ true
  unfolding is_accepted
  call_made a k m e r b h =
      by_outcome
      (λ o. eqb o.number 0 && makes_by s (deed_in s a) k m ≡ true → offers_in o.after.lent k m e r ≡ true → holds_in s.lent k m r ≡ true)
      s a (λ j z q o. absurd (z (eqb-true j 0 (and_left (eqb j 0) _ q)))) (λ v. done_made a v k m e r) b h

  -- a grant that the call did not make stood before it
  pub call_kept : (a : Action) (k m e : ℕ) (r : Right) → is_accepted s a && makes_by s (deed_in s a) k m ≡ false
      → offers_in (performed s a).after.lent k m e r ≡ true → offers_in s.lent k m e r ≡ true
  unfolding is_accepted
  call_kept a k m e r b h =
      by_outcome
      (λ o. eqb o.number 0 && makes_by s (deed_in s a) k m ≡ false → offers_in o.after.lent k m e r ≡ true → offers_in s.lent k m e r ≡ true)
      s a (λ j z q o. o) (λ v. done_kept a v k m e r) b h
