use Rattle.moves.proofs.MovesInSets.{Has-join}
use Rattle.moves.proofs.move_set.MoveSet.join.Goals as goal

pub returns : goal.returns
returns c = λ move. rw (← c.self.view_is, ← c.other.view_is) (Has-join c.self.inside.mask c.other.inside.mask move)
