use Rattle.std.proofs.Common.{◌≡◌, false}
use Rattle.session.specs.Doors.{HasGoneOn, HasServed, LendsTheSame}
use Rattle.session.specs.Seats.{place_of, standing_of}
use Rattle.session.specs.Trades.{IsHeldBy, feeds_at}
use Rattle.session.proofs.doors.door_loop.Given as goal

abbrev pub invariant-loop : goal.invariant-loop
invariant-loop g l =
    HasServed (IsHeldBy l.fn.trade) (feeds_at l.fn.trade) (place_of l.fn.seat.pass) (standing_of l.fn.seat.pass)
    (g.D.Door.at l.fn.door).talks (standing_of l.seat.pass) (g.D.Door.at l.door).talks
    × (place_of l.seat.pass ≡ place_of l.fn.seat.pass) × ((g.D.Door.at l.door).closed ≡ false)
    × ((g.D.Door.at l.door).faults ≡ (g.D.Door.at l.fn.door).faults)
    × LendsTheSame (g.D.Door.at l.fn.door) (g.D.Door.at l.door)
    × ((g.D.Door.at l.door).port ≡ (g.D.Door.at l.fn.door).port)
    × HasGoneOn (standing_of l.fn.seat.pass) (g.D.Door.at l.fn.door).talks (standing_of l.seat.pass) (g.D.Door.at l.door).talks
