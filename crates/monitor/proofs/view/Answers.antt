use native.Mathlib.Omega.{arith}
use mathlib.Core.Path.{ap}
use Rattle.rules.specs.Lent.{lent}
use Rattle.monitor.specs.Leaves.{located}
use Rattle.rules.specs.Numbers.{state, read}
use Rattle.rules.specs.Lent.{part_of_lent}
use Rattle.monitor.proofs.Locating.{BlockAt, block_at, view_refuse, read_view_done, viewed_refused, viewed_at}
use Rattle.monitor.proofs.view.Goals as goal
use Rattle.monitor.proofs.view.Goals.{In-Ok, Start}

-- where a place was told
block : (c : In-Ok)
    → BlockAt read (state (lent c.args.tables c.args.memory.now) c.args.registers) c.args.x c.args.n c.in-Ok.place
block c =
    let a = c.args in
    block_at read (state (lent c.args.tables c.args.memory.now) c.args.registers) a.x a.n _ c.place_block.ensures _ (ap located c.in-Ok.is)

pub overflow_add-end : goal.overflow_add-end
overflow_add-end c =
    omega (arith, (block c).inside, (block c).few)

pub slice_bounds-result-end : goal.slice_bounds-result-end
slice_bounds-result-end c =
    (block c).inside

pub returns-in-Err : goal.returns-in-Err
returns-in-Err c =
    let a = c.args in
    let e = viewed_refused _ a.x a.n _ _ c.place_block.ensures (ap located c.in-Err.is) in
    let f = view_refuse _ a.x a.n _ _ c.place_block.ensures (ap located c.in-Err.is) in
    λ i. part_of_lent a.memory (e i).start (f i).part

pub returns-in-Ok : goal.returns-in-Ok
returns-in-Ok c =
    let located = (goal.at.returns-in-Ok c).In-Ok in
    let a = c.args in
    λ i. part_of_lent a.memory (viewed_at (block located) i).start (read_view_done (block located) i).part
