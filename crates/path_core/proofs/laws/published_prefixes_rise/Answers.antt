use Rattle.path_core.proofs.Bounds.{published_prefixes_rise}
use Rattle.path_core.proofs.laws.published_prefixes_rise.Goals as goal

pub returns : goal.returns
returns c = published_prefixes_rise
