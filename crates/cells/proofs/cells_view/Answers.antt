-- The call that is exported ensures it, of the tables as one struct.
use Rattle.cells.proofs.cells_view.Goals as goal

pub returns : goal.returns
returns c = c.view_place.ensures
