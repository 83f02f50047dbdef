use Rattle.row_check.proofs.Arriving.{AreFound}
use Rattle.row_check.proofs.keys.find_keys.Given as goal

abbrev pub invariant-loop-place : goal.invariant-loop-place
invariant-loop-place l = AreFound l.cursors l.target l.keys l.place
