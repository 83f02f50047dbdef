-- The runs are those of the row up to this place.
use Rattle.std.proofs.Common.{◌≡◌, take}
use Rattle.row_store.specs.Rows.{row_at}
use Rattle.row_cases.proofs.builds.runs_of.Given as goal

abbrev pub invariant-loop-place : goal.invariant-loop-place
invariant-loop-place l = l.runs.items ≡ take l.place (row_at l.comp.rows l.from)
