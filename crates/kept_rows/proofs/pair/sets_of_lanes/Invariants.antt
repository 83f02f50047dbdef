use Rattle.kept_rows.proofs.Surveying.{AreOwnTo}
use Rattle.kept_rows.proofs.pair.sets_of_lanes.Given as goal

abbrev pub invariant-loop-place : goal.invariant-loop-place
invariant-loop-place l = AreOwnTo l.pair.whole.cells l.pair.part.cells l.pair.gaps.now l.place l.own.items
