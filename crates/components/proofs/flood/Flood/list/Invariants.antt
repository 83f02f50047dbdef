use Rattle.std.proofs.Common.{◌≡◌, ◌++◌, ◌==◌, take}
use Rattle.std.specs.List.{filter}
use Rattle.components.specs.Marks.{label_at}
use Rattle.components.proofs.flood.Flood.list.Given as goal

abbrev pub invariant-loop-cell : goal.invariant-loop-cell
invariant-loop-cell l = l.cells.items ≡ l.fn.cells.items ++ filter (λ c. label_at l.grid.width l.self c == l.label) (take l.cell-index l.among)
