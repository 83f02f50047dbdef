use Rattle.near_rows.proofs.CompassSets.{compass_lane}
use Rattle.near_rows.proofs.lanes.compass_sets.Goals as goal

pub returns : goal.returns
returns c = λ lane move l.
    compass_lane _ _ _ _ _ _ _ (c.everywhere.ensures lane l) (c.everywhere-2.ensures lane l) (c.by_order.ensures.less lane l) (c.by_order.ensures.same lane l) (c.by_order.ensures.more lane l)
    (c.by_order-2.ensures.less lane l) (c.by_order-2.ensures.same lane l) (c.by_order-2.ensures.more lane l) move (c.shared.ensures.both lane move l)
