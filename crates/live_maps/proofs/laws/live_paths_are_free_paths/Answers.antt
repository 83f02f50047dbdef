use Rattle.live_maps.proofs.Free.{moves_are_free, paths_are_free}
use Rattle.live_maps.proofs.laws.live_paths_are_free_paths.Goals as goal

pub returns-clause-moves : goal.returns-clause-moves
returns-clause-moves c = moves_are_free

pub returns-clause-paths : goal.returns-clause-paths
returns-clause-paths c = paths_are_free
