use Rattle.kept_rows.proofs.GateLoops.{IsBestTo}
use Rattle.kept_rows.proofs.gates.by_least.Given as goal

abbrev pub invariant-loop-lane : goal.invariant-loop-lane
invariant-loop-lane l = IsBestTo l.ways.keys l.onward l.ways.sets l.lane l.least l.set
