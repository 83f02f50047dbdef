use Rattle.kept_rows.specs.Gates.{IsRepeatedClass}
use Rattle.kept_rows.proofs.GateLoops.{AllTo}
use Rattle.kept_rows.proofs.classes.are_repeated.Given as goal

abbrev pub invariant-loop-class : goal.invariant-loop-class
invariant-loop-class l = AllTo (IsRepeatedClass l.count) l.classes l.class-index
