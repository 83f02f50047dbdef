use Rattle.near_rows.proofs.Determined.{near_versions_are_determined}
use Rattle.near_rows.proofs.laws.near_versions_are_determined.Goals as goal

pub returns : goal.returns
returns c = near_versions_are_determined
