use Rattle.path_file.proofs.GroundLemmas.{IsGroundTo}
use Rattle.path_file.proofs.ground.read_cells.Given as goal

abbrev pub invariant-loop-place : goal.invariant-loop-place
invariant-loop-place l = IsGroundTo l.fn.reader l.reader l.fn.head l.cells l.place l.free
