use Rattle.row_check.specs.Offers.{AreSetsBelow}
use Rattle.row_check.proofs.offers.find_sets.Given as goal

abbrev pub invariant-loop-place : goal.invariant-loop-place
invariant-loop-place l = AreSetsBelow l.near l.keys l.sets l.place
