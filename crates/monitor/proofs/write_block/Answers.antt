use native.Mathlib.Omega.{arith}
use lib.ListN.{length}
use mathlib.Core.Path.{ap}
use Rattle.rules.specs.Lent.{lent}
use Rattle.monitor.specs.Leaves.{located}
use Rattle.rules.specs.Numbers.{state, write}
use Rattle.monitor.proofs.Locating.{BlockAt, write_refuse, block_at, block_write_done}
use Rattle.monitor.proofs.write_block.Goals as goal
use Rattle.monitor.proofs.write_block.Goals.{In-Ok, Start}

-- where a place was told
block : (c : In-Ok)
    → BlockAt write (state (lent c.args.tables c.args.memory.now) c.args.registers) c.args.x (length c.args.bytes.now) c.in-Ok.place
block c =
    block_at write (state (lent c.args.tables c.args.memory.now) c.args.registers) c.args.x (length c.args.bytes.now) _ c.place_block.ensures _ (ap located c.in-Ok.is)

pub overflow_add-end : goal.overflow_add-end
overflow_add-end c =
    omega (arith, (block c).inside, (block c).few)

pub slice_bounds-copy_into-end : goal.slice_bounds-copy_into-end
slice_bounds-copy_into-end c =
    (block c).inside

pub returns-in-Err : goal.returns-in-Err
returns-in-Err c =
    rw c.new-in-Err.ensures (write_refuse _ c.args.x c.args.bytes.now _ _ c.place_block.ensures (ap located c.in-Err.is))

pub returns-in-Ok : goal.returns-in-Ok
returns-in-Ok c =
    let at = (goal.at.returns-in-Ok c).In-Ok in
    rw c.new.ensures (block_write_done _ _ _ _ _ c.copy_into.ensures (block at))
