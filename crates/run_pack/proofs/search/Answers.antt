use Rattle.std.proofs.Common.{refl}
use Rattle.run_pack.proofs.Searching.{searching_right, searching_left, found_at_end}
use Rattle.run_pack.proofs.Found.{IsFound-from_last}
use Rattle.run_pack.proofs.search.Goals as goal

pub loop-low-preserved-then-run-place : goal.loop-low-preserved-then-run-place
loop-low-preserved-then-run-place g c =
    searching_right _ _ _ _ _ _ _ _ c.requires c.loop-low.invariant c.loop-low-test.true refl _ _ c.probe-stored.ensures.read c.probe-stored.ensures.counted (rw c.run.ensures at c.if-run-place.true)

pub loop-low-preserved : goal.loop-low-preserved
loop-low-preserved g c =
    searching_left _ _ _ _ _ _ _ _ c.requires c.loop-low.invariant c.loop-low-test.true refl _ _ c.probe-stored.ensures.read c.probe-stored.ensures.counted (rw c.run.ensures at c.if-run-place.false)

pub returns-clause-found : goal.returns-clause-found
returns-clause-found g c =
    IsFound-from_last _ _ _ (rw c.run-2.ensures (found_at_end _ _ _ _ _ _ _ c.requires c.loop-low.invariant c.loop-low-test.false))
