use Rattle.near_rows.proofs.NearWalking.{near_walks_are_best}
use Rattle.near_rows.proofs.laws.near_walks_are_best.Goals as goal

pub returns : goal.returns
returns c = near_walks_are_best
