use Rattle.kept_rows.specs.Gates.{IsClassKept}
use Rattle.kept_rows.proofs.GateLoops.{AllTo}
use Rattle.kept_rows.proofs.gates.are_kept.Given as goal

abbrev pub invariant-loop-class : goal.invariant-loop-class
invariant-loop-class l = AllTo (IsClassKept l.ways.keys l.ways.sets) l.classes l.class-index
