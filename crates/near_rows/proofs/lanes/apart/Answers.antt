use Rattle.near_rows.proofs.Choices.{short_lane}
use Rattle.near_rows.proofs.NearLanes.{apart_lane}
use Rattle.near_rows.proofs.lanes.apart.Goals as goal

pub returns : goal.returns
returns c = λ lane limit l.
    apart_lane _ _ _ _ _ limit (short_lane c.args.a lane c.fits-a) (short_lane c.args.b lane c.fits-b) (c.greater.ensures lane l) (c.lesser.ensures lane l) (c.less_by.ensures lane l)
