use Rattle.std.proofs.Common.{slice_index}
use Rattle.lane_rows.proofs.Keys.{least_attained}
use Rattle.lane_rows.proofs.inside.lowest.Goals as goal

pub returns-clause-attained : goal.returns-clause-attained
returns-clause-attained c =
    least_attained c.args.edges.now (slice_index c.args.costs.now) _ _ _ _ _ c.requires.range c.lesser.ensures c.one_further.ensures c.one_further-2.ensures
    c.least_of.ensures c.least_of-2.ensures
