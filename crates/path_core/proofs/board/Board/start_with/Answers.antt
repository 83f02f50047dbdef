use Rattle.path_core.proofs.BoardSteps.{start_kept}
use Rattle.path_core.proofs.board.Board.start_with.Goals as goal

pub invariant_of-result-2 : goal.invariant_of-result-2
invariant_of-result-2 c = start_kept _ _ _ _ _ _ _ _ _ _ c.grid-2.view_is c.requires.first c.deref.ensures c.grid.ensures.version
    c.in_ok-copy.ensures c.in_ok-with_capacity.ensures.items c.new-edits.ensures c.in_ok-reserve.ensures.edits c.in_ok-reserve.ensures.room
    c.requires.room c.in_ok-with_capacity.ensures.exact
