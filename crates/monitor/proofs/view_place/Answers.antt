use mathlib.Core.Path.{ap}
use Rattle.monitor.specs.Leaves.{located}
use Rattle.rules.specs.Numbers.{read}
use Rattle.monitor.proofs.Locating.{block_at, viewed_refused, viewed_at}
use Rattle.monitor.proofs.view_place.Goals as goal
use Rattle.monitor.proofs.view_place.Goals.{Start}

pub returns-in-Err : goal.returns-in-Err
returns-in-Err c =
    rw (c.number.ensures, c.value.ensures)
    (viewed_refused _ c.args.x c.args.n _ _ c.place_block.ensures (ap located c.in-Err.is))

pub returns-in-Ok : goal.returns-in-Ok
returns-in-Ok c =
    let a = c.args in
    viewed_at (block_at read _ a.x a.n _ c.place_block.ensures _ (ap located c.in-Ok.is))
