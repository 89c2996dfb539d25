use Rattle.listing.proofs.Loops.{cells_more}
use Rattle.listing.proofs.cells.cells_at.Goals as goal

pub loop-n-preserved : goal.loop-n-preserved
loop-n-preserved c = cells_more c.loop-n.invariant c.loop-n-test.true c.in-Some.ensures
