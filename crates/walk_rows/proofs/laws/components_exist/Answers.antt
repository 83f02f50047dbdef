use Rattle.walk_rows.proofs.Listing.{components_exist}
use Rattle.walk_rows.proofs.laws.components_exist.Goals as goal

pub returns : goal.returns
returns c = components_exist
