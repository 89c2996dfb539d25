use Rattle.listing.proofs.Loops.{CellsRead}
use Rattle.listing.proofs.cells.cells_at.Given as goal

abbrev pub invariant-loop-n : goal.invariant-loop-n
invariant-loop-n l = CellsRead l.s l.at l.n l.next l.first l.last l.offset l.marks
