use Rattle.near_rows.proofs.Fewest.{near_runs_are_at_most_the_versions}
use Rattle.near_rows.proofs.laws.near_runs_are_at_most_the_versions.Goals as goal

pub returns : goal.returns
returns c = near_runs_are_at_most_the_versions
