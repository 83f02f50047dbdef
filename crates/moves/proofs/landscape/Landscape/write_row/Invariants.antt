-- The masks of the cells further left are written.
use Rattle.std.proofs.Common.{◌+◌}
use Rattle.moves.specs.MoveMasks.{WritesMasks}
use Rattle.moves.proofs.landscape.Landscape.write_row.Given as goal

abbrev pub invariant-loop-x : goal.invariant-loop-x
invariant-loop-x l = WritesMasks l.self l.left l.x l.y (l.y + 1) l.initial.masks l.masks
