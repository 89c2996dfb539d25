use Rattle.rules.proofs.Below.{searched_none, searched_later}
use Rattle.monitor.proofs.Searching.{other_here, other_nobody}
use Rattle.monitor.proofs.look.other_holder.Goals as goal

pub loop-k-init : goal.loop-k-init
loop-k-init c = searched_none _ _

pub returns-then-k-d : goal.returns-then-k-d
returns-then-k-d c = other_here _ _ _ _ _ c.loop-k.invariant c.loop-k-test.true c.if-k-d.true

pub loop-k-preserved : goal.loop-k-preserved
loop-k-preserved c = searched_later _ _ _ c.loop-k.invariant c.loop-k-test.true c.if-k-d.false

pub returns : goal.returns
returns c = other_nobody _ _ _ _ _ c.loop-k.invariant c.loop-k-test.false
