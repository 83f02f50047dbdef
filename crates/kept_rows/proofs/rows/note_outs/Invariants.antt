use Rattle.std.proofs.Common.{◌≡◌, ◌-◌, drop, length}
use Rattle.kept_rows.specs.RowEdits.{outs}
use Rattle.kept_rows.proofs.rows.note_outs.Given as goal

abbrev pub invariant-loop-index : goal.invariant-loop-index
invariant-loop-index l = l.edits.items ≡ outs (drop (length l.holes - l.index) l.holes)
