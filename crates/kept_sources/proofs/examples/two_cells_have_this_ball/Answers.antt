use Rattle.kept_sources.proofs.SmallMaps.{ball_of_two, no_ball_of_two}
use Rattle.kept_sources.proofs.examples.two_cells_have_this_ball.Goals as goal

pub returns-clause-all : goal.returns-clause-all
returns-clause-all c = ball_of_two

pub returns-clause-one_missing : goal.returns-clause-one_missing
returns-clause-one_missing c = no_ball_of_two
