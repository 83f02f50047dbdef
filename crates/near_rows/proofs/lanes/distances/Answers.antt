use Rattle.near_rows.proofs.NearLanes.{square_lane}
use Rattle.near_rows.proofs.lanes.distances.Goals as goal

pub returns-clause-square : goal.returns-clause-square
returns-clause-square c = λ lane radius l.
    square_lane _ _ _ _ _ _ _ radius (c.everywhere.ensures lane l) (c.everywhere-2.ensures lane l) (c.apart.ensures lane radius l) (c.apart-2.ensures lane radius l) (c.greater.ensures lane l)
