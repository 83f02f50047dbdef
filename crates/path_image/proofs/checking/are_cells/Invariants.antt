use Rattle.path_image.specs.Reading.{HasCells}
use Rattle.path_image.proofs.checking.are_cells.Given as goal

abbrev pub invariant-loop-place : goal.invariant-loop-place
invariant-loop-place l = HasCells l.words l.start l.place
