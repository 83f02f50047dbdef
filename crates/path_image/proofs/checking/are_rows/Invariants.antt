use Rattle.path_image.specs.Reading.{HasRows}
use Rattle.path_image.proofs.checking.are_rows.Given as goal

abbrev pub invariant-loop-place : goal.invariant-loop-place
invariant-loop-place l = HasRows l.words l.start l.place
