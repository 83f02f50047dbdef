use Rattle.versions.proofs.Databases.{databases_are_determined}
use Rattle.versions.proofs.laws.databases_are_determined.Goals as goal

pub returns : goal.returns
returns c = databases_are_determined
