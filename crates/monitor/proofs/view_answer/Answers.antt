use mathlib.Core.Path.{ap}
use Rattle.rules.specs.Numbers.{read}
use Rattle.monitor.specs.Answers.{answer_in}
use Rattle.monitor.specs.Leaves.{located}
use Rattle.monitor.proofs.Locating.{view_refuse, block_at, read_view_done}
use Rattle.monitor.proofs.view_answer.Goals as goal

pub returns-in-Err : goal.returns-in-Err
returns-in-Err c = ap answer_in (view_refuse _ c.args.x c.args.n _ _ c.place_block.ensures (ap located c.in-Err.is))

pub returns-in-Ok : goal.returns-in-Ok
returns-in-Ok c = ap answer_in (read_view_done (block_at read _ c.args.x c.args.n _ c.place_block.ensures _ (ap located c.in-Ok.is)))
