use Rattle.std.proofs.Common.{◌≡◌, ◌++◌, map, take}
use Rattle.components.specs.Edits.{rank_of}
use Rattle.components.proofs.edits.push_ranks.Given as goal

abbrev pub invariant-loop-cell : goal.invariant-loop-cell
invariant-loop-cell l = l.ranks.items ≡ l.fn.ranks.items ++ map rank_of (take l.cell-index l.cells)
