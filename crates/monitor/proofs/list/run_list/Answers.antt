use Prim.Native.Nat.{◌-◌}
use mathlib.Core.Path.{◌≡◌}
use native.Mathlib.Omega.{arith}
use Rattle.monitor.specs.Answers.{came}
use Rattle.monitor.proofs.Running.{same_lists, same_then, turn_first, position_told, turn_next, turns_ran}
use Rattle.monitor.proofs.list.run_list.Goals as goal
use Rattle.monitor.proofs.list.run_list.Goals.{After-perform-answered}

-- its answer's entry
entry : (c : After-perform-answered) → c.perform-answered.result.position - 1 ≡ c.loop-k.k
entry c = omega (arith, position_told c.perform-answered.ensures.done)

pub loop-k-init : goal.loop-k-init
loop-k-init c = (turn_first _ _ _ _ c.requires.begun, same_lists)

pub perform-answered-requires : goal.perform-answered-requires
perform-answered-requires c = c.loop-k.invariant.0.begun

pub overflow_sub-entry : goal.overflow_sub-entry
overflow_sub-entry c =
    omega (arith, position_told c.perform-answered.ensures.done)

pub offset_bounds-numbers-entry : goal.offset_bounds-numbers-entry
offset_bounds-numbers-entry c =
    let p = (goal.at.offset_bounds-numbers-entry c).After-perform-answered in
    omega (arith, entry p, c.loop-k-test.true, c.requires.room, c.well_formed)

pub bounds-numbers-entry : goal.bounds-numbers-entry
bounds-numbers-entry c =
    let p = (goal.at.bounds-numbers-entry c).After-perform-answered in
    omega (arith, entry p, c.loop-k-test.true, c.requires.room, c.loop-k.invariant.0.long)

pub offset_bounds-values-entry : goal.offset_bounds-values-entry
offset_bounds-values-entry c =
    let p = (goal.at.offset_bounds-values-entry c).After-perform-answered in
    omega (arith, entry p, c.loop-k-test.true, c.requires.room, c.well_formed)

pub bounds-values-entry : goal.bounds-values-entry
bounds-values-entry c =
    let p = (goal.at.bounds-values-entry c).After-perform-answered in
    omega (arith, entry p, c.loop-k-test.true, c.requires.room, c.loop-k.invariant.0.wide)

pub loop-k-preserved : goal.loop-k-preserved
loop-k-preserved c =
    let p = (goal.at.loop-k-preserved c).After-perform-answered in (
      turn_next (came c.perform-answered.result.reply _) c.loop-k.invariant.0 c.perform-answered.ensures.done (entry p),
      same_then c.loop-k.invariant.1 c.perform-answered.ensures.same_lists,
    )

pub shape_of-memory : goal.shape_of-memory
shape_of-memory c = c.loop-k.invariant.0.shape.bytes

pub shape_of-numbers : goal.shape_of-numbers
shape_of-numbers c = c.loop-k.invariant.0.long

pub shape_of-values : goal.shape_of-values
shape_of-values c = c.loop-k.invariant.0.wide

pub returns : goal.returns
returns c =
    let e : c.loop-k.k ≡ c.args.count = omega (arith, c.loop-k-test.false, c.loop-k.auto) in
    record { answers = turns_ran c.loop-k.invariant.0 e; same_lists = c.loop-k.invariant.1 }
