use mathlib.Core.Path.{ap, ◌∙◌}
use Prim.Native.Nat.{ℕ}
use native.Mathlib.Omega.{arith}
use lib.ListN.{length}
use Rattle.rules.specs.Lent.{lent_mut}
use Rattle.rules.specs.Numbers.{state}
use Rattle.rules.proofs.Kept.{SameShape}
use Rattle.listing.proofs.Whole.{run_body, ran_shape}
use Rattle.listing.proofs.run.run_instructions.Goals as goal
use Rattle.listing.proofs.run.run_instructions.Goals.{After-execute_all-after}

shape : (c : After-execute_all-after) → SameShape (lent_mut c.args.loaded.now.tables c.args.loaded.now.memory.now) (lent_mut c.execute_all-after.new.tables c.execute_all-after.new.memory)
shape c =
    ran_shape (state (lent_mut c.args.loaded.now.tables c.args.loaded.now.memory.now) c.args.registers) _ c.args.instructions.now c.args.numbers.now c.args.values.now c.execute_all-after.ensures.answers

pub invariant_of-loaded : goal.invariant_of-loaded
invariant_of-loaded c =
    let kept = shape (goal.at.invariant_of-loaded c).After-execute_all-after in
    record {
      of_size = kept.divisions ∙ c.args.loaded.now.of_size;
      cells = omega (arith, ap (length {A = ℕ}) kept.firsts, c.args.loaded.now.cells);
      entries = (omega (arith, kept.rights, c.args.loaded.now.entries.0), omega (arith, kept.grants, c.args.loaded.now.entries.1));
    }

pub returns-clause-puts : goal.returns-clause-puts
returns-clause-puts c =
    let asked = c.requires in
    let a = c.args in
    let e = c.execute_all-after in
    run_body _ a.instructions.now a.count asked.sizes.0 asked.sizes.1 e.new.numbers e.new.values a.numbers.now a.values.now _
    asked.answers.0 asked.answers.1 e.ensures.answers c.put_answers-end.ensures.puts c.put_state.ensures.puts
