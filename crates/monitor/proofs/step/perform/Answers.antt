-- The four numbers are decoded, and then the instruction is stepped: each return is one law of `Executing`.
use mathlib.Core.Path.{ap}
use native.Mathlib.Omega.{arith}
use Rattle.rules.specs.Lent.{lent_mut}
use Rattle.rules.specs.Numbers.{state}
use Rattle.rules.specs.Instructions.{kept}
use Rattle.rules.proofs.Kept.{first_holds}
use Rattle.monitor.specs.Runs.{listed}
use Rattle.monitor.proofs.Executing.{came_replied, kind_in_range, executed_kind, executed_refused}
use Rattle.monitor.proofs.step.perform.Goals as goal

pub overflow_cast-m : goal.overflow_cast-m
overflow_cast-m c = omega (arith, c.requires.sizes.within.divisions)

pub step-answer-requires : goal.step-answer-requires
step-answer-requires c =
    let s = state (lent_mut c.args.tables.now c.args.memory.now) c.args.registers in
    record { begun = c.requires; in_range = kind_in_range s _ _ _ _ _ _ c.decode.ensures _ (ap kept c.in-Ok.is) }

pub returns-in-Ok-clause-done : goal.returns-in-Ok-clause-done
returns-in-Ok-clause-done c =
    let s = state (lent_mut c.args.tables.now c.args.memory.now) c.args.registers in
    rw (c.new.ensures, came_replied c.step-answer.result c.args.registers)
    (executed_kind s _ _ _ _ _ _ c.decode.ensures _ (ap kept c.in-Ok.is) (first_holds _ c.requires) _ c.step-answer.ensures.done)

pub returns-in-Err-clause-done : goal.returns-in-Err-clause-done
returns-in-Err-clause-done c =
    let s = state (lent_mut c.args.tables.now c.args.memory.now) c.args.registers in
    rw c.new-in-Err.ensures
    (ap (listed c.args.position) (executed_refused s _ _ _ _ _ _ c.decode.ensures _ (ap kept c.in-Err.is) (first_holds _ c.requires)))
