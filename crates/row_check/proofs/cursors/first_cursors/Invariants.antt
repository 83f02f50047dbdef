use Rattle.row_check.proofs.Standing.{AreBegun}
use Rattle.row_check.proofs.cursors.first_cursors.Given as goal

abbrev pub invariant-loop-source : goal.invariant-loop-source
invariant-loop-source l = AreBegun l.rows l.near l.cursors.items l.source
