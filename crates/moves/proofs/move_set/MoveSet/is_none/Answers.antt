use Rattle.moves.proofs.MovesInSets.{none_if_tested}
use Rattle.moves.proofs.move_set.MoveSet.is_none.Goals as goal

pub returns : goal.returns
returns c = rw (← c.self.view_is) (none_if_tested c.self.inside.mask c.self.invariant)
