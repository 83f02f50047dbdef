use Rattle.moves.proofs.MovesInSets.{Has-tested}
use Rattle.moves.proofs.move_set.MoveSet.has.Goals as goal

pub returns : goal.returns
returns c = rw (← c.self.view_is) (Has-tested c.self.inside.mask c.number.result c.args.m c.number.ensures.number)
