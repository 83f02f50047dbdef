use Rattle.kept_rows.proofs.Surveying.{AreLastTo}
use Rattle.kept_rows.proofs.pair.last_sets.Given as goal

abbrev pub invariant-loop-lanes : goal.invariant-loop-lanes
invariant-loop-lanes l = AreLastTo l.sets l.lanes-index l.own.items
