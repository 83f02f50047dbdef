use Rattle.std.proofs.Common.{◌≡◌, ◌+◌, ◌≤◌, length}
use Rattle.std.specs.Vec.{vec_capacity}
use Rattle.session.specs.Crews.{backwards}
use Rattle.session.specs.declared.crews.Worker.{Worker}
use Rattle.session.proofs.Hiring.{IsBack}
use Rattle.session.proofs.crews.dismiss.Given as goal

abbrev pub invariant-loop-worker : goal.invariant-loop-worker
invariant-loop-worker g l =
    IsBack (λ (w : Worker g.row.D.Denot g.row.B.Denot g.row.D-Conn.Denot). w.door) (λ w. w.seat.pass)
    (backwards l.fn.crew.items (λ w. w.door)) (backwards l.fn.crew.items (λ w. w.seat.pass))
    l.crew.items l.doors.items l.passes.items
    × (length l.doors.items + length l.crew.items ≤ vec_capacity l.doors) × (length l.passes.items + length l.crew.items ≤ vec_capacity l.passes)
    × (vec_capacity l.passes ≡ vec_capacity l.fn.passes)

abbrev pub decreases-loop-worker : goal.decreases-loop-worker
decreases-loop-worker g l = length l.crew.items
