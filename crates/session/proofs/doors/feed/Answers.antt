use Rattle.std.proofs.Common.{subst, sym}
use Rattle.feed_node.specs.Feeding.{Feeds, sight_of}
use Rattle.session.proofs.FedTalks.{fed_held, fed_holds, place_by_same}
use Rattle.session.proofs.doors.feed.Goals as goal

pub returns-clause-place : goal.returns-clause-place
returns-clause-place g c = place_by_same _ _ c.feed_link-ended.ensures.same

pub returns-clause-holds : goal.returns-clause-holds
returns-clause-holds g c = fed_holds c.args.seat.now.pass c.feed_link-ended.new.pass c.feed_link-ended.ensures.held

pub returns-clause-held : goal.returns-clause-held
returns-clause-held g c =
    let fed = c.feed_link-ended in
    let told = (g.L.Link.at c.args.link.now).talk in
    let after = (g.L.Link.at fed.new.link).talk in
    fed_held c.args.start.now.map c.args.seat.now.pass fed.new.pass (g.L.Link.at c.args.link.now) (g.L.Link.at fed.new.link) fed.result c.requires.unused
    (subst (λ m. Feeds m (sight_of c.args.seat.now.pass) told fed.result (sight_of fed.new.pass) after) (sym c.requires.start) fed.ensures.feeds)
    fed.ensures.cause fed.ensures.none
