use Rattle.row_check.specs.Following.{AreCursors, HaveGoneOn}
use Rattle.row_check.proofs.cursors.advance.Given as goal

abbrev pub invariant-loop-source : goal.invariant-loop-source
invariant-loop-source l = AreCursors l.rows l.near l.cursors × HaveGoneOn l.fn.cursors l.cursors l.target l.source
