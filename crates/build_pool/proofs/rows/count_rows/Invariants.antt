use Rattle.std.specs.Prelude.{◌≤◌}
use Rattle.build_pool.proofs.rows.count_rows.Given as goal

abbrev pub invariant-loop-place : goal.invariant-loop-place
invariant-loop-place l = l.count ≤ l.place
