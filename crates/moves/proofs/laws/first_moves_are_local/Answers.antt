-- The law is a lemma of its own.
use Rattle.moves.proofs.FirstMoves.{first_moves_are_local}
use Rattle.moves.proofs.laws.first_moves_are_local.Goals as goal

pub returns : goal.returns
returns c = first_moves_are_local
