-- The cell is found, the instruction judged on it and applied: each return is one law of `Stepping`.
use mathlib.Core.Path.{refl, ◌∙◌}
use Rattle.std.proofs.lemmas.Result.{err_from_is_err_and}
use Rattle.rules.specs.Lent.{lent_mut}
use Rattle.rules.specs.Numbers.{state}
use Rattle.rules.specs.Instructions.{address_of}
use Rattle.monitor.proofs.Readiness.{cells_rise, seen_ready, seen_judged}
use Rattle.monitor.proofs.Searching.{FoundAt, lost}
use Rattle.monitor.proofs.Stepping.{found_for, found_nothing, stepped_nowhere, stepped_refused, stepped_applied, needs_hold}
use Rattle.monitor.proofs.step.step.Goals as goal
use Rattle.monitor.proofs.step.step.Goals.{In_ok-c}

found : (c : In_ok-c) → FoundAt (lent_mut c.args.tables.now c.args.memory.now) (address_of c.args.i) c.in_ok-c.c
found c = found_for _ c.args.i _ c.address.ensures c.find.ensures _ c.in_ok-c.ensures.ok_part

pub find-requires : goal.find-requires
find-requires c = cells_rise _ c.requires.begun.sizes c.requires.begun.sound

pub returns-in_err-c-clause-done : goal.returns-in_err-c-clause-done
returns-in_err-c-clause-done c =
    let p = err_from_is_err_and c.from_residual.result c.from_residual.ensures.1 in
    rw (p.1, p.2, lost _ _ _ c.in_err-c.ensures.value)
    (stepped_nowhere (state (lent_mut c.args.tables.now c.args.memory.now) c.args.registers) c.args.i (found_nothing _ c.args.i _ c.address.ensures c.find.ensures c.in_err-c.ensures.ok_part))

pub judge-requires : goal.judge-requires
judge-requires c =
    seen_ready _ _ c.tables.ensures
    (record { begun = c.requires.begun; range = c.requires.in_range; cell = (found (goal.at.judge-requires c).In_ok-c).cell })

pub returns-in_err-judge-clause-done : goal.returns-in_err-judge-clause-done
returns-in_err-judge-clause-done c =
    let here = (goal.at.returns-in_err-judge-clause-done c).In_ok-c in
    let p = err_from_is_err_and c.from_residual-in_err-judge.result c.from_residual-in_err-judge.ensures.1 in
    let judged = seen_judged _ _ c.tables.ensures c.args.memory.now _ _ c.args.i c.in_err-judge.ensures in
    rw (p.1, p.2) (stepped_refused (state (lent_mut c.args.tables.now c.args.memory.now) c.args.registers) c.args.i _ _ (found here) judged _ refl)

pub apply-requires : goal.apply-requires
apply-requires c =
    let here = (goal.at.apply-requires c).In_ok-c in
    let judged = seen_judged _ _ c.tables.ensures c.args.memory.now _ _ c.args.i c.in_ok-judge.ensures in
    record {
      ready = record { begun = c.requires.begun; range = c.requires.in_range; cell = (found here).cell };
      all_hold = needs_hold (state (lent_mut c.args.tables.now c.args.memory.now) c.args.registers) c.args.i _ _ (found here) judged refl;
    }

pub returns-clause-done : goal.returns-clause-done
returns-clause-done c =
    let here = (goal.at.returns-clause-done c).In_ok-c in
    let judged = seen_judged _ _ c.tables.ensures c.args.memory.now _ _ c.args.i c.in_ok-judge.ensures in
    c.apply.ensures.done ∙ stepped_applied _ c.args.i _ _ (found here) judged refl
