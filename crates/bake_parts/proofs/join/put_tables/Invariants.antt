use Rattle.bake_parts.proofs.Tables.{IsTabling}
use Rattle.bake_parts.proofs.join.put_tables.Given as goal

abbrev pub invariant-loop-number : goal.invariant-loop-number
invariant-loop-number l = IsTabling l.components l.parts l.number l.at l.end l.fn.room l.room l.rows
