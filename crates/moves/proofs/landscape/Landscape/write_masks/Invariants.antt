-- The masks of the rows above are written.
use Rattle.moves.specs.MoveMasks.{WritesMasks}
use Rattle.moves.proofs.landscape.Landscape.write_masks.Given as goal

abbrev pub invariant-loop-y : goal.invariant-loop-y
invariant-loop-y l = WritesMasks l.self l.fn.columns.start l.fn.columns.end l.fn.rows.start l.y l.initial.masks l.masks
