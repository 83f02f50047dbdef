use Rattle.moves.proofs.MovesInSets.{Has-with}
use Rattle.moves.proofs.move_set.MoveSet.with.Goals as goal

pub returns : goal.returns
returns c = λ move. rw (← c.self.view_is, c.number.ensures.number) (Has-with c.self.inside.mask move c.args.m)
