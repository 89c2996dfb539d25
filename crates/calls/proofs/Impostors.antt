-- The contracts themselves shut out document 01's impostors: whoever meets that of `execute`, however it computes, does not
-- refuse everything, has no constant answer, and does touch its tables; whoever meets that of `execute_all` does not run the
-- first instruction and then only pretend. Each from one closed case on document 01's listing. Assumes nothing.
use Prim.Native.Nat.{ℕ, ◌≤◌}
use mathlib.Core.Path.{◌≡◌, refl, sym, ap, ◌∙◌}
use mathlib.Core.Logic.{◌≢◌}
use mathlib.Core.List.{List, [], ◌∷◌}
use native.Mathlib.Omega.{arith}
use lib.ListN.{get_or}
use Rattle.rules.specs.Below.{every, count, lowest_from, lowest}
use Rattle.rules.specs.Numbers.{Tables, tables, State, state, in_bounds, right_lengths, part_of, larger, join}
use Rattle.rules.specs.Lent.{Slice, MutSlice}
use Rattle.rules.specs.Sound.{sound_grant, holders, after_cell_before, sound_cell, sound_tables, lowest_unsound}
use Rattle.rules.specs.Refusals.{Outcome, first_failing, answered, well_sized, known_divisions}
use Rattle.rules.specs.Instructions.{no_operands, byte_operand, division_operand, rights_operand, grant_operands, source_operand, formed, covers, covering_cell, covered, valid, place, word_in, whole_word, grant_names, other_holder, nobody_else, needs, effect, registers_after, value_of}
use Rattle.rules.specs.Calls.{kind_checks, checks, done_at, done, performed}
use Rattle.rules.specs.Bench.{listed}
use Rattle.rules.specs.declared.Registers.{Registers}
use Rattle.rules.specs.declared.TablesMut.{TablesMut as LentTablesMut}
use Rattle.rules.proofs.Laws.{shape_kept}
use Rattle.monitor.specs.Runs.{instruction_at, room_for, room_in, after_first, answers_in, Ran}
use Rattle.monitor.specs.declared.reply.Reply.{Reply}
use Rattle.monitor.proofs.Running.{no_part}
use Rattle.monitor.proofs.Unique.{lists, answers}
use Rattle.monitor.proofs.execute.Reads as execute-reads
use Rattle.monitor.proofs.execute_all.Reads as execute-all-reads
use Rattle.calls.proofs.Contracts.{given, own}
use Rattle.calls.proofs.Mixtures.{GivenAll, state_of, instruction_of}

-- ---- document 01's listing, lent at some place

abbrev show : List ℕ → Slice
show l = record { ref_ptr = (0, 0); now = l }

abbrev lend : List ℕ → MutSlice
lend l = record { ref_ptr = (0, 0); ghost_name = 0; now = l }

-- the tables, the memory and the registers at 0, and what is the call's own
abbrev lending : {Own : Type 0} → Own → GivenAll Own
lending rest =
    let tables : LentTablesMut = record {
      m = listed.M;
      first = show listed.first;
      last = show listed.last;
      offset = show listed.offset;
      marks = lend listed.marks;
      rights = lend listed.rights;
      grants = lend listed.grants;
    } in
    given (record { ref_ptr = (0, 0); ghost_name = 0; now = tables }) (lend listed.memory) (record { current = 0; caller = 0; place = 0 }) rest

-- ---- one instruction

abbrev One : Type 0
One = GivenAll (ℕ × (ℕ × (ℕ × (ℕ × Unit {0}))))

abbrev one : (number x y z : ℕ) → One
one number x y z = lending (number, (x, (y, (z, tt))))

-- what document 01 answers to it
abbrev answer : One → Outcome
answer a = performed (state_of a) (instruction_of a)

-- somebody meets the contract: whoever answers as document 01 does
abbrev pub reply_of : One → Reply
reply_of a = record { number = (answer a).number; value = (answer a).value; registers = (answer a).after.registers }

-- and leaves what it was lent in its place, with the lists that document 01 has then
abbrev holding : MutSlice → List ℕ → MutSlice
holding s l = record { ref_ptr = s.ref_ptr; ghost_name = s.ghost_name; now = l }

abbrev holding_all : LentTablesMut → Tables → LentTablesMut
holding_all d t = record {
  m = d.m;
  first = d.first;
  last = d.last;
  offset = d.offset;
  marks = holding d.marks t.marks;
  rights = holding d.rights t.rights;
  grants = holding d.grants t.grants;
}

abbrev pub exit_of : One → One
exit_of a =
    let t = (answer a).after.lent in
    (record { ref_ptr = a.0.ref_ptr; ghost_name = a.0.ghost_name; now = holding_all a.0.now t }, (holding a.1.0 t.memory, a.1.1))

pub contract_met : (κs : _) (a : One) → execute-reads.Post κs a (reply_of a) (exit_of a)
contract_met κs a =
    let s = state_of a in
    let t = (answer a).after.lent in
    let h = shape_kept s (instruction_of a) in
    let p = no_part s (own a).0 (own a).1.0 (own a).1.1.0 (own a).1.1.1.0 in (
      λ i. record {
        number = (answer a).number;
        value = (answer a).value;
        part = sym p i;
        after = state
            (tables (sym h.divisions i) (sym h.firsts i) (sym h.lasts i) (sym h.offsets i) t.marks t.rights t.grants t.memory)
            (answer a).after.registers;
      },
      record { divisions = refl; first = refl; last = refl; offset = refl; marks = refl; rights = refl; grants = refl },
    )

-- ---- a list of instructions

abbrev Many : Type 0
Many = GivenAll (Slice × (MutSlice × (MutSlice × Unit {0})))

-- store 65 at 4096, and load it: two answers
abbrev two : Many
two = lending (show (1 ∷ 4096 ∷ 65 ∷ 0 ∷ 0 ∷ 4096 ∷ 0 ∷ 0 ∷ []), (lend (0 ∷ 0 ∷ []), (lend (0 ∷ 0 ∷ []), tt)))

-- protect 4096 to read, and then to nothing
abbrev twice : Many
twice = lending (show (4 ∷ 4096 ∷ 1 ∷ 0 ∷ 4 ∷ 4096 ∷ 0 ∷ 0 ∷ []), (lend (0 ∷ 0 ∷ []), (lend (0 ∷ 0 ∷ []), tt)))

-- how many instructions there are with room for both answers
abbrev room : Many → ℕ
room a = room_in (own a).0.now (own a).1.0.now (own a).1.1.0.now

-- the state after the first instruction alone
abbrev after_one : Many → State
after_one a = after_first (state_of a) (own a).0.now 1

-- ---- the closed cases

record Cases : Type 0 where
  -- load 4096 is accepted with the byte there
  load : ((answer (one 0 4096 0 0)).number ≡ 0) × ((answer (one 0 4096 0 0)).value ≡ 0)
  -- load 4104 is refused
  beyond : (answer (one 0 4104 0 0)).number ≡ 6
  -- protect 4096 to read is accepted with the rights that it leaves, and leaves them
  protect : ((answer (one 4 4096 1 0)).value ≡ 1) × ((answer (one 4 4096 1 0)).after.lent.rights ≡ 1 ∷ 0 ∷ 0 ∷ 0 ∷ 0 ∷ 4 ∷ [])
  -- the load behind the store finds the byte that was stored; without the store it would find another
  loaded : answers_in (λ o. o.value) (state_of two) (own two).0.now 2 (0 ∷ 0 ∷ []) ≡ 0 ∷ 65 ∷ []
  pretended : (performed (state_of two) (instruction_at (own two).0.now 1)).value ≡ 0
  -- the second protect leaves other rights than the first
  first : (after_one twice).lent.rights ≡ 1 ∷ 0 ∷ 0 ∷ 0 ∷ 0 ∷ 4 ∷ []
  both : (after_first (state_of twice) (own twice).0.now 2).lent.rights ≡ 0 ∷ 0 ∷ 0 ∷ 0 ∷ 0 ∷ 4 ∷ []

cases : Cases
unfolding every count lowest_from lowest in_bounds right_lengths part_of larger join sound_grant holders after_cell_before sound_cell sound_tables lowest_unsound first_failing answered well_sized known_divisions no_operands byte_operand division_operand rights_operand grant_operands source_operand formed covers covering_cell covered valid place word_in whole_word grant_names other_holder nobody_else needs effect registers_after value_of kind_checks checks done_at done performed room_for after_first answers_in
cases =
    record { load = (refl, refl); beyond = refl; protect = (refl, refl); loaded = refl; pretended = refl; first = refl; both = refl }

-- ---- whoever meets the contract of `execute`

-- f answers and g tells the parameters at exit, as the contract of `execute` says, whatever is passed
module _ (κs : _) (f : One → Reply) (g : One → One) (met : (a : One) → execute-reads.Post κs a (f a) (g a)) where
  number_met : (a : One) → (f a).number ≡ (answer a).number
  number_met a = ap (λ (o : Outcome). o.number) (met a).0

  value_met : (a : One) → (f a).value ≡ (answer a).value
  value_met a = ap (λ (o : Outcome). o.value) (met a).0

  -- it does not refuse everything
  pub refuses_not_all : ((a : One) → (f a).number ≢ 0) → ⊥
  refuses_not_all refuses = refuses (one 0 4096 0 0) (number_met (one 0 4096 0 0) ∙ cases.load.0)

  -- its answer is not constant, neither in its number nor in its value
  pub number_varies : (n : ℕ) → ((a : One) → (f a).number ≡ n) → ⊥
  number_varies n constant =
      let z : n ≡ 0 = sym (constant (one 0 4096 0 0)) ∙ number_met (one 0 4096 0 0) ∙ cases.load.0 in
      let six : n ≡ 6 = sym (constant (one 0 4104 0 0)) ∙ number_met (one 0 4104 0 0) ∙ cases.beyond in
      omega arith

  pub value_varies : (v : ℕ) → ((a : One) → (f a).value ≡ v) → ⊥
  value_varies v constant =
      let z : v ≡ 0 = sym (constant (one 0 4096 0 0)) ∙ value_met (one 0 4096 0 0) ∙ cases.load.1 in
      let alone : v ≡ 1 = sym (constant (one 4 4096 1 0)) ∙ value_met (one 4 4096 1 0) ∙ cases.protect.0 in
      omega arith

  -- it touches its tables
  pub tables_change : ((a : One) → lists (g a) ≡ lists a) → ⊥
  tables_change never =
      let a = one 4 4096 1 0 in
      let kept : ◌≡◌ {A = ℕ} 1 3 = ap (λ (l : List ℕ). get_or l 0 0)
      (sym cases.protect.1 ∙ ap (λ (o : Outcome). o.after.lent.rights) (sym (met a).0) ∙ ap (λ (t : Tables). t.rights) (never a)) in
      omega arith

-- ---- whoever meets the contract of `execute_all`

module _ (κs : _) (f : Many → Registers) (g : Many → Many) (met : (a : Many) → execute-all-reads.Post κs a (f a) (g a)) where
  -- where there are two instructions, it does not always leave the tables as the first did
  pub tables_go_on : ((a : Many) → 2 ≤ room a → lists (g a) ≡ (after_one a).lent) → ⊥
  unfolding room_for
  tables_go_on stops =
      let same : ◌≡◌ {A = ℕ} 0 1 = ap (λ (l : List ℕ). get_or l 0 0)
      (sym cases.both ∙ ap (λ (o : Ran). o.after.lent.rights) (sym (met twice).0) ∙ ap (λ (t : Tables). t.rights) (stops twice (omega arith)) ∙ cases.first) in
      omega arith

  -- nor is the second always answered as if the first had not been run
  pub answers_go_on : ((a : Many) → 2 ≤ room a
      → get_or (answers (g a)).1 1 0 ≡ (performed (state_of a) (instruction_at (own a).0.now 1)).value) → ⊥
  unfolding room_for
  answers_go_on pretends =
      let same : ◌≡◌ {A = ℕ} 65 0 = ap (λ (l : List ℕ). get_or l 1 0) (sym cases.loaded ∙ ap (λ (o : Ran). o.values) (sym (met two).0))
      ∙ pretends two (omega arith) ∙ cases.pretended in
      omega arith
