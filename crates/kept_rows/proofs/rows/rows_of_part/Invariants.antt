use Rattle.build_pool.specs.Pieces.{AreSome}
use Rattle.kept_rows.proofs.rows.rows_of_part.Given as goal

abbrev pub invariant-loop-place : goal.invariant-loop-place
invariant-loop-place l = AreSome l.lists.cells.now l.rows
