use Rattle.near_rows.proofs.NearLanes.{widened_lane}
use Rattle.near_rows.proofs.lanes.widened.Goals as goal

pub returns : goal.returns
returns c = λ lane l. widened_lane _ _ _ _ _ _ (c.distances.ensures.square lane _ l) (c.filled.ensures.inside lane l) (c.filled.ensures.outside lane l)
