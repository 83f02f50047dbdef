use Rattle.lane_rows.proofs.Exact.{solved_keys_are_least}
use Rattle.lane_rows.proofs.laws.solved_keys_are_least.Goals as goal

pub returns : goal.returns
returns c = solved_keys_are_least
