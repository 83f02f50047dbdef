use Rattle.row_check.proofs.Arriving.{IsSettling}
use Rattle.row_check.proofs.keys.settle.Given as goal

abbrev pub invariant-loop-keys : goal.invariant-loop-keys
invariant-loop-keys l = IsSettling l.cursors l.target l.fn.keys l.keys l.from l.at l.rest

abbrev pub decreases-loop-keys : goal.decreases-loop-keys
decreases-loop-keys l = l.rest
