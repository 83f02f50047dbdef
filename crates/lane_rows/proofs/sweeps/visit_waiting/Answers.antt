use Rattle.lane_rows.proofs.Sweeping.{swept_none, swept_more}
use Rattle.lane_rows.proofs.sweeps.visit_waiting.Goals as goal

pub returns : goal.returns
returns c = swept_more _ _ _ _ _ _ _ c.requires.near c.in-Some.ensures (swept_none _ _ _ c.requires.range) c.visit.ensures.range c.visit.ensures.visit

pub returns-2 : goal.returns-2
returns-2 c = swept_none _ _ _ c.requires.range
