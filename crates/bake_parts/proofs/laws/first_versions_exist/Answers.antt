use Rattle.bake_parts.proofs.Existing.{first_versions_exist}
use Rattle.bake_parts.proofs.laws.first_versions_exist.Goals as goal

pub returns : goal.returns
returns c = first_versions_exist
