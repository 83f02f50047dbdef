use Rattle.std.proofs.Common.{take}
use Rattle.map_read.proofs.RowLemmas.{IsFilledTo}
use Rattle.map_read.proofs.rows.read_cells.Given as goal

abbrev pub invariant-loop-x : goal.invariant-loop-x
invariant-loop-x l = IsFilledTo l.y l.start l.x l.count l.row (take l.start l.initial.cells) l.cells
