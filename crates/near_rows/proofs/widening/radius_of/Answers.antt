use Rattle.std.proofs.Common.{arith}
use Rattle.near_rows.proofs.Radii.{nearest_more, nearest_all}
use Rattle.near_rows.proofs.widening.radius_of.Goals as goal

pub loop-place-preserved : goal.loop-place-preserved
loop-place-preserved c = nearest_more _ _ _ _ _ _ c.loop-place.invariant c.loop-place-test.true c.nearer-least.ensures

pub returns : goal.returns
returns c = λ map first. nearest_all _ _ _ _ _ c.loop-place.invariant (omega (arith, c.loop-place-test.false, c.loop-place.auto.place-end)) map first
