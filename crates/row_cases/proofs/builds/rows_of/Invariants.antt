-- The lists are the rows up to this one.
use Rattle.std.proofs.Common.{◌≡◌, map, take}
use Rattle.row_cases.proofs.builds.rows_of.Given as goal

abbrev pub invariant-loop-from : goal.invariant-loop-from
invariant-loop-from l = map (λ row. row.items) l.rows.items ≡ take l.from l.comp.rows
