use Rattle.versions.proofs.BestWalks.{walks_are_best}
use Rattle.versions.proofs.laws.walks_are_best.Goals as goal

pub returns : goal.returns
returns c = walks_are_best
