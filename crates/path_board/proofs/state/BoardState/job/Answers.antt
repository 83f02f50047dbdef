use Rattle.path_board.proofs.Listing.{known_whole}
use Rattle.path_board.proofs.state.BoardState.job.Goals as goal

pub job-requires : goal.job-requires
job-requires c = known_whole _ _ c.whole.ensures c.requires
