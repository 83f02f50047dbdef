use Rattle.std.proofs.Common.{◌≡◌, length}
use Rattle.std.specs.Vec.{vec_capacity}
use Rattle.session.specs.declared.crews.Worker.{Worker}
use Rattle.session.proofs.Hiring.{IsHiring}
use Rattle.session.proofs.crews.hire.Given as goal

abbrev pub invariant-loop-door : goal.invariant-loop-door
invariant-loop-door g l =
    IsHiring (λ (w : Worker g.row.D.Denot g.row.B.Denot g.row.D-Conn.Denot). w.door) (λ w. w.seat.pass) l.fn.doors.items l.fn.passes.items
    l.crew.items l.doors.items l.passes.items (vec_capacity l.crew)
    × (vec_capacity l.doors ≡ vec_capacity l.fn.doors) × (vec_capacity l.passes ≡ vec_capacity l.fn.passes)

abbrev pub decreases-loop-door : goal.decreases-loop-door
decreases-loop-door g l = length l.doors.items
