use Rattle.versions.proofs.FewestRuns.{versions_have_fewest_runs}
use Rattle.versions.proofs.laws.versions_have_fewest_runs.Goals as goal

pub returns : goal.returns
returns c = versions_have_fewest_runs
