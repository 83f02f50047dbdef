use Rattle.std.proofs.Common.{◌≡◌, take}
use Rattle.kept_rows.specs.RowEdits.{ins}
use Rattle.kept_rows.proofs.rows.note_ins.Given as goal

abbrev pub invariant-loop-hole : goal.invariant-loop-hole
invariant-loop-hole l = l.edits.items ≡ ins (take l.hole-index l.holes)
