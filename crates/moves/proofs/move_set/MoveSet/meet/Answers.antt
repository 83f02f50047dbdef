use Rattle.moves.proofs.MovesInSets.{Has-meet}
use Rattle.moves.proofs.move_set.MoveSet.meet.Goals as goal

pub returns : goal.returns
returns c = λ move. rw (← c.self.view_is, ← c.other.view_is) (Has-meet c.self.inside.mask c.other.inside.mask move)
