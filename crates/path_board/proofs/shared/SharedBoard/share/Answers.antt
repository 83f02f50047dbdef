use Rattle.std.specs.Arc.{arc_value}
use Rattle.path_board.proofs.Dealt.{dealt_to}
use Rattle.path_board.proofs.Listing.{listed_none}
use Rattle.path_board.proofs.shared.SharedBoard.share.Goals as goal

pub make-requires-clause-empty : goal.make-requires-clause-empty
make-requires-clause-empty c = listed_none _ c.requires.none

pub returns-in-Ok-make-clause-ok : goal.returns-in-Ok-make-clause-ok
returns-in-Ok-make-clause-ok c = dealt_to arc_value _ c.args.board c.args.passes c.in-Ok-make.seats.items c.in-Ok.versions.items _
    c.in-Ok-make.ensures.ok c.requires.none c.in-Ok.ensures c.deal.ensures
