use Rattle.lane_rows.proofs.Visiting.{visits_keep_settled}
use Rattle.lane_rows.proofs.laws.visits_keep_settled.Goals as goal

pub returns : goal.returns
returns c = visits_keep_settled
