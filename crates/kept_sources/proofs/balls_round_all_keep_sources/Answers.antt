use Rattle.kept_sources.proofs.Leaving.{balls_round_all_keep_sources}
use Rattle.kept_sources.proofs.balls_round_all_keep_sources.Goals as goal

pub returns : goal.returns
returns c = balls_round_all_keep_sources
