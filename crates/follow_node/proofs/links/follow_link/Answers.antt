use Rattle.follow_node.proofs.Rounding.{follows_none, follows_rounds}
use Rattle.follow_node.proofs.links.follow_link.Goals as goal

pub returns-in-Ok-clause-follows : goal.returns-in-Ok-clause-follows
returns-in-Ok-clause-follows g c =
    follows_rounds c.args.rounds c.args.follower.now (g.L.Link.at c.args.link.now).talk c.follow_rounds.result c.take_message.new.follower _
    (g.L.Link.at c.take_message.new.link).talk _ c.in-Ok.ensures.heeds c.follow_rounds.ensures.all c.follow_rounds.ensures.some

pub returns-in-Err-clause-follows : goal.returns-in-Err-clause-follows
returns-in-Err-clause-follows g c =
    follows_none c.args.rounds c.args.follower.now (g.L.Link.at c.args.link.now).talk _ _ c.in-Err.fault c.in-Err.ensures.stops
