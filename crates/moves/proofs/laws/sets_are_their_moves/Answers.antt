use Rattle.moves.proofs.MovesInSets.{sets_by_moves}
use Rattle.moves.proofs.laws.sets_are_their_moves.Goals as goal

pub returns : goal.returns
returns c = sets_by_moves
