use Rattle.path_image.specs.Reading.{HasHomes}
use Rattle.path_image.proofs.checking.check_homes.Given as goal

abbrev pub invariant-loop-place : goal.invariant-loop-place
invariant-loop-place l = HasHomes l.words l.place
