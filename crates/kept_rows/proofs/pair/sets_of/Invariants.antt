use Rattle.kept_rows.proofs.Surveying.{AreSetsTo}
use Rattle.kept_rows.proofs.pair.sets_of.Given as goal

abbrev pub invariant-loop-place : goal.invariant-loop-place
invariant-loop-place l = AreSetsTo l.pair.whole.cells l.pair.part.cells l.pair.gaps.now l.pair.part.tile.sources l.place l.sets.items
