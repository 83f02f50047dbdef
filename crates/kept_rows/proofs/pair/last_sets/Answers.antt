use Rattle.std.proofs.Common.{rules}
use Rattle.kept_rows.proofs.Surveying.{last_all}
use Rattle.kept_rows.proofs.pair.last_sets.Goals as goal

pub returns : goal.returns
returns c = last_all _ _ _ c.loop-lanes.invariant (search rules) (search rules)
