-- Only sets at the places that are left are not empty.
use Rattle.first_sets.proofs.Clearing.{AreLeft}
use Rattle.first_sets.proofs.sparse_sets.clear.Given as goal

abbrev pub invariant-loop-place : goal.invariant-loop-place
invariant-loop-place l = AreLeft l.places l.place-index l.sets
