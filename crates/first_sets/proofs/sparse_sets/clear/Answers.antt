use Rattle.std.proofs.Common.{refl, rules}
use Rattle.first_sets.proofs.Clearing.{left_all, left_less, left_none}
use Rattle.first_sets.proofs.sparse_sets.clear.Goals as goal

pub loop-place-init : goal.loop-place-init
loop-place-init c = left_all _ _ c.requires.written

pub loop-place-preserved : goal.loop-place-preserved
loop-place-preserved c =
    left_less c.args.places.now c.loop-place.place-index c.loop-place.sets _ c.loop-place-test.true refl (search rules) c.loop-place.invariant

pub returns : goal.returns
returns c = left_none c.args.places.now c.loop-place.place-index c.loop-place.sets c.loop-place-test.false c.loop-place.invariant
