use Rattle.moves.proofs.MovesInSets.{Has-none}
use Rattle.moves.proofs.laws.no_move_is_in_none.Goals as goal

pub returns : goal.returns
returns c = Has-none
