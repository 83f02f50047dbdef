use Rattle.kept_sources.proofs.Pockets.{pockets_keep_sources}
use Rattle.kept_sources.proofs.pockets_keep_sources.Goals as goal

pub returns : goal.returns
returns c = pockets_keep_sources
