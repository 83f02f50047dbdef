use Rattle.bake_parts.proofs.Tables.{IsSizing}
use Rattle.bake_parts.proofs.join.tables_size.Given as goal

abbrev pub invariant-loop-number : goal.invariant-loop-number
invariant-loop-number l = IsSizing l.components l.parts l.number l.size l.rows
