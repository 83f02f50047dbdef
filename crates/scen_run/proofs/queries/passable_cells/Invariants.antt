use Rattle.std.proofs.Common.{◌≡◌}
use Rattle.scen_run.proofs.Querying.{cells_to}
use Rattle.scen_run.proofs.queries.passable_cells.Given as goal

abbrev pub invariant-loop-place : goal.invariant-loop-place
invariant-loop-place l = l.cells.items ≡ cells_to l.grid l.place
