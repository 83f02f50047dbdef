use Rattle.bake_parts.proofs.Joining.{IsCounting}
use Rattle.bake_parts.proofs.join.count_runs.Given as goal

abbrev pub invariant-loop-place : goal.invariant-loop-place
invariant-loop-place l = IsCounting l.component l.size l.fn.rows l.rows l.place l.runs
