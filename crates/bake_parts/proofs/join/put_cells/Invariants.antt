use Rattle.std.proofs.Common.{map, take}
use Rattle.path_image.specs.Images.{cell_word}
use Rattle.bake_parts.specs.Joins.{PutsWords}
use Rattle.bake_parts.proofs.join.put_cells.Given as goal

abbrev pub invariant-loop-cell : goal.invariant-loop-cell
invariant-loop-cell l = PutsWords l.at l.end l.fn.room l.room (map cell_word (take l.cell-index l.cells))
