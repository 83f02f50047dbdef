use Rattle.std.proofs.Common.{inl}
use Rattle.std.proofs.lemmas.Option.{MatchOption-at_none}
use Rattle.follow_node.specs.Following.{followed_of}
use Rattle.follow_node.proofs.Heard.{refuses_edits}
use Rattle.follow_node.proofs.hearing.take_edits.Goals as goal

pub returns-in-None-clause-fault : goal.returns-in-None-clause-fault
returns-in-None-clause-fault c = λ order.
    inl (refuses_edits (followed_of c.args.board.now) c.args.frame.now c.args.at c.requires.kind (MatchOption-at_none _ _ c.in-None.is c.in-Ok.ensures) order)
