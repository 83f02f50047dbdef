use Rattle.moves.proofs.RowMajor.{passable_cells_listed}
use Rattle.moves.proofs.laws.passable_cells_are_listed.Goals as goal

pub returns : goal.returns
returns c = passable_cells_listed
