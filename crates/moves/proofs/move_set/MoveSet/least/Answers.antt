use Rattle.moves.proofs.MovesInSets.{least_answer}
use Rattle.moves.proofs.move_set.MoveSet.least.Goals as goal

pub returns : goal.returns
returns c = rw (← c.self.view_is) (least_answer c.self.inside.mask c.of.result c.self.invariant c.of.ensures)
