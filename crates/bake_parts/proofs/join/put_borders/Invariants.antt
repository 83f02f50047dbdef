use Rattle.bake_parts.proofs.Joining.{IsBordering}
use Rattle.bake_parts.proofs.join.put_borders.Given as goal

abbrev pub invariant-loop-place : goal.invariant-loop-place
invariant-loop-place l = IsBordering l.component l.size l.from l.rows l.place l.border l.at l.end l.fn.room l.room
