use Rattle.std.proofs.Common.{arith}
use Rattle.near_rows.proofs.NearLanes.{lanes_none, lanes_more, lanes_radius, lanes_bytes}
use Rattle.near_rows.proofs.lanes.radii_of.Goals as goal

pub loop-place-init : goal.loop-place-init
loop-place-init c = lanes_none _ _ _ _

pub loop-place-preserved : goal.loop-place-preserved
loop-place-preserved c = lanes_more _ _ _ _ _ _ _ c.loop-place.invariant c.loop-place-test.true c.requires c.nearer-radii.ensures.nearer c.nearer-radii.ensures.bytes

pub returns-clause-radius : goal.returns-clause-radius
returns-clause-radius c = lanes_radius _ _ _ _ _ _ c.loop-place.invariant (omega (arith, c.loop-place-test.false, c.loop-place.auto.place-end))

pub returns-clause-bytes : goal.returns-clause-bytes
returns-clause-bytes c = lanes_bytes _ _ _ _ _ _ c.loop-place.invariant (omega (arith, c.loop-place-test.false, c.loop-place.auto.place-end)) c.requires
