use Rattle.std.proofs.Common.{subst}
use Rattle.session.specs.Seats.{place_of, standing_of}
use Rattle.session.specs.Trades.{IsFeedBy, IsNoFeed}
use Rattle.session.proofs.FedTalks.{held_feed, held_session, move_feed, move_session}
use Rattle.session.proofs.Leading.{session_held, session_moves}
use Rattle.session.proofs.doors.hold_talk.Goals as goal

pub feed-requires-clause-start : goal.feed-requires-clause-start
feed-requires-clause-start g c κs within = c.requires.fits _ (subst (λ n. IsFeedBy c.args.trade.now n c.in-Some.start.now.map) c.number.ensures c.in-Some.ensures.some)

pub returns-in-Some-clause-on : goal.returns-in-Some-clause-on
returns-in-Some-clause-on g c =
    move_feed c.args.trade.now (place_of c.args.seat.now.pass) (standing_of c.args.seat.now.pass) (standing_of c.feed.new.seat.pass) c.feed.ensures.others
    c.feed.ensures.holds

pub returns-in-Some-clause-held : goal.returns-in-Some-clause-held
returns-in-Some-clause-held g c =
    held_feed c.args.trade.now (place_of c.args.seat.now.pass) (standing_of c.args.seat.now.pass) (standing_of c.feed.new.seat.pass) c.in-Some.start.now.map
    (g.L.Link.at c.args.link.now).talk (g.L.Link.at c.feed.new.link)
    (subst (λ n. IsFeedBy c.args.trade.now n c.in-Some.start.now.map) c.number.ensures c.in-Some.ensures.some) c.feed.ensures.held

pub returns-in-None-clause-on : goal.returns-in-None-clause-on
returns-in-None-clause-on g c =
    move_session c.args.trade.now (place_of c.args.seat.now.pass) (standing_of c.args.seat.now.pass) (standing_of c.serve_link-ended.new.desk.pass)
    (subst (IsNoFeed c.args.trade.now) c.number.ensures c.in-None.ensures.none)
    (session_moves (place_of c.args.seat.now.pass) (standing_of c.args.seat.now.pass) (standing_of c.serve_link-ended.new.desk.pass)
    (g.L.Link.at c.args.link.now).talk (g.L.Link.at c.serve_link-ended.new.link).talk c.serve_link-ended.result c.serve_link-ended.ensures.talk)

pub returns-in-None-clause-held : goal.returns-in-None-clause-held
returns-in-None-clause-held g c =
    held_session c.args.trade.now (place_of c.args.seat.now.pass) (standing_of c.args.seat.now.pass) (standing_of c.serve_link-ended.new.desk.pass)
    (g.L.Link.at c.args.link.now).talk (g.L.Link.at c.serve_link-ended.new.link)
    (subst (IsNoFeed c.args.trade.now) c.number.ensures c.in-None.ensures.none)
    (session_held (place_of c.args.seat.now.pass) (standing_of c.args.seat.now.pass) (standing_of c.serve_link-ended.new.desk.pass)
    (g.L.Link.at c.args.link.now) (g.L.Link.at c.serve_link-ended.new.link) c.serve_link-ended.result c.requires.unused c.serve_link-ended.ensures.talk
    c.serve_link-ended.ensures.cause)
