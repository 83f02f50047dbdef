use Rattle.moves.specs.FirstSetLists.{cell_of}
use Rattle.build_pool.proofs.Sourcing.{AreWritten}
use Rattle.build_pool.proofs.searching.write_sets.Given as goal

abbrev pub invariant-loop-place : goal.invariant-loop-place
invariant-loop-place l = AreWritten l.grid (cell_of l.cells l.fn.place) l.cells l.bytes l.place
