use Rattle.path_image.proofs.Rising.{StartsRise}
use Rattle.path_image.proofs.checking.rises.Given as goal

abbrev pub invariant-loop-k : goal.invariant-loop-k
invariant-loop-k l = StartsRise l.row l.k
