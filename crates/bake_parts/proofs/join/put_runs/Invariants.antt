use Rattle.bake_parts.proofs.Joining.{IsRunning}
use Rattle.bake_parts.proofs.join.put_runs.Given as goal

abbrev pub invariant-loop-place : goal.invariant-loop-place
invariant-loop-place l = IsRunning l.component l.size l.fn.rows l.rows l.place l.at l.end l.fn.room l.room
