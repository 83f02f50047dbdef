use Rattle.row_check.specs.Joining.{AreTaken}
use Rattle.row_check.proofs.joining.join_sets.Given as goal

abbrev pub invariant-loop-source : goal.invariant-loop-source
invariant-loop-source l = AreTaken l.rows l.cursors l.target l.fn.common l.sets l.common l.source
