use Rattle.path_board.proofs.Closing.{all_named, all_seats, base_of_last, goes_on_from_all}
use Rattle.path_board.proofs.Listing.{listed_all}
use Rattle.path_board.proofs.shared.SharedBoard.close.Goals as goal

pub close-board-requires : goal.close-board-requires
close-board-requires c = record { seats = all_seats _ _ c.requires.passes }

pub returns-clause-seen : goal.returns-clause-seen
returns-clause-seen c = goes_on_from_all _ _ (listed_all _ c.entries.ensures.limit) c.close-board.ensures.list

pub returns-clause-named : goal.returns-clause-named
returns-clause-named c = all_named _ _ (listed_all _ c.entries.ensures.limit) c.close-board.ensures.named

pub returns-clause-base : goal.returns-clause-base
returns-clause-base c = base_of_last c.args.passes.items _ c.close-board.ensures.base
