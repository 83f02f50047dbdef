use Rattle.path_board.proofs.Listing.{listed_all}
use Rattle.path_board.proofs.state.BoardState.whole.Goals as goal

pub returns : goal.returns
returns c = record {
  sound = record { legal = c.entries.ensures.legal; version = c.version.ensures.version };
  list = listed_all _ c.entries.ensures.limit;
}
