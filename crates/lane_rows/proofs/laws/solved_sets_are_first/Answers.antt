use Rattle.lane_rows.proofs.First.{solved_sets_are_first}
use Rattle.lane_rows.proofs.laws.solved_sets_are_first.Goals as goal

pub returns : goal.returns
returns c = solved_sets_are_first
