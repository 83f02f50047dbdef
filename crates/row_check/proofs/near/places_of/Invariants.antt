use Rattle.row_store.proofs.Numbers.{AreNumbered}
use Rattle.row_check.proofs.near.places_of.Given as goal

abbrev pub invariant-loop-place : goal.invariant-loop-place
invariant-loop-place l = AreNumbered l.cells l.bounds l.places.items l.place
