use Rattle.moves.proofs.MovesInSets.{Has-all}
use Rattle.moves.proofs.laws.each_move_is_in_all.Goals as goal

pub returns : goal.returns
returns c = Has-all
