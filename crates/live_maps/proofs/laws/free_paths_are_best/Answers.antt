use Rattle.live_maps.proofs.Free.{free_best, free_walk}
use Rattle.live_maps.proofs.laws.free_paths_are_best.Goals as goal

pub returns-clause-paths : goal.returns-clause-paths
returns-clause-paths c = free_best

pub returns-clause-walks : goal.returns-clause-walks
returns-clause-walks c = free_walk
