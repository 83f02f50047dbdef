use Rattle.std.proofs.Common.{inl, inr, refl, subst, sym, ◌∙◌}
use Rattle.session.specs.Doors.{HasServed}
use Rattle.session.specs.Seats.{place_of, standing_of}
use Rattle.session.specs.Trades.{FitsAt, IsHeldBy, feeds_at}
use Rattle.session.proofs.Leading.{goes_on, lends_itself, lends_then, served_none}
use Rattle.session.proofs.Ringing.{rests_none}
use Rattle.session.proofs.doors.door_loop.Goals as goal

pub loop-init : goal.loop-init
loop-init g c =
    let place = place_of c.args.seat.now.pass in
    let old = standing_of c.args.seat.now.pass in
    let told = (g.D.Door.at c.args.door.now).talks in (
      served_none (IsHeldBy c.args.trade.now) (feeds_at c.args.trade.now) place old old told (rests_none place old),
      refl,
      c.requires.open,
      refl,
      lends_itself (g.D.Door.at c.args.door.now),
      refl,
      inl (refl, refl),
    )

pub serve_knock-requires-clause-fits : goal.serve_knock-requires-clause-fits
serve_knock-requires-clause-fits g c κs within = subst (FitsAt c.args.trade.now) (sym c.loop.invariant.1) c.requires.fits

pub returns-in-Some-serve_knock-clause-served : goal.returns-in-Some-serve_knock-clause-served
returns-in-Some-serve_knock-clause-served g c =
    let held = IsHeldBy c.args.trade.now in
    let silent = feeds_at c.args.trade.now in
    let old = standing_of c.args.seat.now.pass in
    let mid = standing_of c.loop.seat.pass in
    let new = standing_of c.serve_knock.new.seat.pass in
    let between = (g.D.Door.at c.loop.door).talks in
    let after = (g.D.Door.at c.serve_knock.new.door).talks in
    let inv = c.loop.invariant in
    goes_on held silent (place_of c.args.seat.now.pass) old mid new (g.D.Door.at c.args.door.now).talks between after inv.6 inv.0
    (subst (λ p. HasServed held silent p mid between new after) inv.1 c.serve_knock.ensures.served)

pub loop-preserved : goal.loop-preserved
loop-preserved g c =
    let held = IsHeldBy c.args.trade.now in
    let silent = feeds_at c.args.trade.now in
    let place = place_of c.args.seat.now.pass in
    let old = standing_of c.args.seat.now.pass in
    let mid = standing_of c.loop.seat.pass in
    let new = standing_of c.serve_knock.new.seat.pass in
    let before = (g.D.Door.at c.args.door.now).talks in
    let between = (g.D.Door.at c.loop.door).talks in
    let after = (g.D.Door.at c.serve_knock.new.door).talks in
    let inv = c.loop.invariant in
    let then = c.in-None-serve_knock.ensures in (
      goes_on held silent place old mid new before between after inv.6 inv.0
          (subst (λ p. HasServed held silent p mid between new after) inv.1 c.serve_knock.ensures.served),
      c.serve_knock.ensures.place ∙ inv.1,
      then.ended.1,
      then.ended.2 ∙ inv.3,
      lends_then held silent place old mid (g.D.Door.at c.args.door.now) (g.D.Door.at c.loop.door) (g.D.Door.at c.serve_knock.new.door)
          inv.0 inv.4 c.serve_knock.ensures.lent,
      c.serve_knock.ensures.port ∙ inv.5,
      inr then.ended.0,
    )
