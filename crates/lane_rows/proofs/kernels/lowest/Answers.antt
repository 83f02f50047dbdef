use Rattle.lane_rows.specs.Equations.{lane_of}
use Rattle.lane_rows.proofs.Keys.{least_attained}
use Rattle.lane_rows.proofs.kernels.lowest.Goals as goal

pub returns-clause-attained : goal.returns-clause-attained
returns-clause-attained c = λ lane l.
    least_attained c.args.edges.now (lane_of c.args.keys.now lane) _ _ _ _ _ (λ place. c.requires.range.each lane place l) (c.lesser.ensures.least lane l) (c.raised.ensures.sum lane l) (c.raised-2.ensures.sum lane l)
    (c.least_of.ensures lane l) (c.least_of-2.ensures lane l)
