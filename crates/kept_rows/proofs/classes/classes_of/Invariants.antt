use Rattle.kept_rows.proofs.GateLoops.{AreClassesTo}
use Rattle.kept_rows.proofs.classes.classes_of.Given as goal

abbrev pub invariant-loop-place : goal.invariant-loop-place
invariant-loop-place l = AreClassesTo l.pair.whole l.pair.part l.pair.gaps.now l.cut.side.items l.place l.classes.items
