use Rattle.kept_sources.proofs.Leaving.{balls_keep_sources}
use Rattle.kept_sources.proofs.balls_keep_sources.Goals as goal

pub returns : goal.returns
returns c = balls_keep_sources
