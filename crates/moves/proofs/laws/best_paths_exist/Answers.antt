use Rattle.moves.proofs.BestPaths.{best_path_exists, first_move_exists}
use Rattle.moves.proofs.laws.best_paths_exist.Goals as goal

pub returns-clause-best : goal.returns-clause-best
returns-clause-best c = best_path_exists

pub returns-clause-first : goal.returns-clause-first
returns-clause-first c = first_move_exists
