use Rattle.kept_rows.proofs.RowEdits.{AreHolesTo}
use Rattle.kept_rows.proofs.rows.note_holes.Given as goal

abbrev pub invariant-loop-number : goal.invariant-loop-number
invariant-loop-number l = AreHolesTo l.gaps l.sets l.number l.holes.items
