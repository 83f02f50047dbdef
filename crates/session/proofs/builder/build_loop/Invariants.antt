use Rattle.std.proofs.Common.{◌≡◌, false}
use Rattle.session.specs.Builders.{HasBuilt}
use Rattle.session.specs.Standing.{stands}
use Rattle.session.proofs.builder.build_loop.Given as goal

abbrev pub invariant-loop : goal.invariant-loop
invariant-loop g l =
    HasBuilt (g.K.Desk.at l.fn.desk).place (stands (g.K.Desk.at l.fn.desk)) l.totals (g.E.Ear.at l.fn.ear).rung
    (stands (g.K.Desk.at l.desk)) (g.E.Ear.at l.ear).rung
    × ((g.K.Desk.at l.desk).place ≡ (g.K.Desk.at l.fn.desk).place) × ((g.E.Ear.at l.ear).over ≡ false)
