use Rattle.near_rows.proofs.Fewest.{near_rows_have_fewest_runs}
use Rattle.near_rows.proofs.laws.near_rows_have_fewest_runs.Goals as goal

pub returns : goal.returns
returns c = near_rows_have_fewest_runs
