use Rattle.bake_parts.proofs.Tables.{IsStarting}
use Rattle.bake_parts.proofs.join.put_starts.Given as goal

abbrev pub invariant-loop-number : goal.invariant-loop-number
invariant-loop-number l = IsStarting l.components l.parts l.start l.number l.begin l.at l.end l.fn.room l.room l.rows
