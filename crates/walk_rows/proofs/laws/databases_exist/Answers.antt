use Rattle.walk_rows.proofs.Existing.{databases_exist}
use Rattle.walk_rows.proofs.laws.databases_exist.Goals as goal

pub returns : goal.returns
returns c = databases_exist
