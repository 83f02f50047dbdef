use Rattle.std.proofs.Common.{subst, sym}
use Rattle.session.specs.Doors.{HasServed, HasServedOne, LooksBetween}
use Rattle.session.specs.Seats.{place_of, standing_of}
use Rattle.session.specs.Trades.{IsHeldBy, feeds_at}
use Rattle.session.proofs.Leading.{served_none, served_one}
use Rattle.session.proofs.Ringing.{rests_none}
use Rattle.session.proofs.doors.serve_knock.Goals as goal
use Rattle.session.proofs.doors.serve_knock.Goals.{After-knock}

-- nobody was served by the knock itself
none_served : (g : _) (c : After-knock g)
    → HasServed (IsHeldBy c.args.trade.now) (feeds_at c.args.trade.now) (place_of c.args.seat.now.pass) (standing_of c.args.seat.now.pass)
    (g.D.Door.at c.args.door.now).talks (standing_of c.args.seat.now.pass) (g.D.Door.at c.knock.new.self).talks
none_served g c =
    let held = IsHeldBy c.args.trade.now in
    let silent = feeds_at c.args.trade.now in
    let place = place_of c.args.seat.now.pass in
    let old = standing_of c.args.seat.now.pass in
    let before = (g.D.Door.at c.args.door.now).talks in
    subst (HasServed held silent place old before old) (sym c.knock.ensures.knock.talks) (served_none held silent place old old before (rests_none place old))

pub returns-in-Ok-Conn-clause-served : goal.returns-in-Ok-Conn-clause-served
returns-in-Ok-Conn-clause-served g c =
    let held = IsHeldBy c.args.trade.now in
    let silent = feeds_at c.args.trade.now in
    let place = place_of c.args.seat.now.pass in
    let old = standing_of c.args.seat.now.pass in
    let mid = standing_of c.serve_conn.new.seat.pass in
    let new = standing_of c.pause.new.desk.pass in
    let before = (g.D.Door.at c.args.door.now).talks in
    let after = (g.D.Door.at c.serve_conn.new.door).talks in
    served_one held silent place old mid new before after
    (subst (λ told. HasServedOne held silent place old told mid after) c.knock.ensures.knock.talks c.serve_conn.ensures.served)
    (subst (λ p. LooksBetween p mid new) c.serve_conn.ensures.place c.pause.ensures.looks)

pub returns-in-Ok-Closed-clause-served : goal.returns-in-Ok-Closed-clause-served
returns-in-Ok-Closed-clause-served g c = none_served g (goal.at.returns-in-Ok-Closed-clause-served g c).After-knock

pub returns-in-Err-clause-served : goal.returns-in-Err-clause-served
returns-in-Err-clause-served g c = none_served g (goal.at.returns-in-Err-clause-served g c).After-knock
