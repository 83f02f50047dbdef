use Rattle.session.specs.Seats.{place_of, standing_of}
use Rattle.session.specs.Trades.{IsHeldBy, feeds_at}
use Rattle.session.proofs.Leading.{served_talk}
use Rattle.session.proofs.doors.serve_conn.Goals as goal

pub returns-clause-served : goal.returns-clause-served
returns-clause-served g c =
    served_talk (IsHeldBy c.args.trade.now) (feeds_at c.args.trade.now) (place_of c.args.seat.now.pass)
    (standing_of c.args.seat.now.pass) (standing_of c.hold_talk.new.seat.pass) (g.D.Door.at c.args.door.now)
    (g.D.Conn.Link.at c.args.conn) (g.D.Conn.Link.at c.hold_talk.new.link) (g.D.Door.at c.done.new.self).talks c.requires.told c.hold_talk.ensures.on
    c.hold_talk.ensures.held c.done.ensures.back.talks
