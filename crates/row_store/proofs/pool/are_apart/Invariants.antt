use Rattle.row_store.specs.Layout.{AreApart}
use Rattle.row_store.proofs.pool.are_apart.Given as goal

abbrev pub invariant-loop-place : goal.invariant-loop-place
invariant-loop-place l = AreApart l.own l.others l.place
