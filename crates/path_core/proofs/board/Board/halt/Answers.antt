use Rattle.path_core.proofs.BoardSteps.{halt_kept}
use Rattle.path_core.proofs.board.Board.halt.Goals as goal

pub invariant_of-self-2 : goal.invariant_of-self-2
invariant_of-self-2 c = halt_kept _ _ _ _ _ _ _ _ _ _ _ _ _ _ c.self.invariant c.if-self.false c.reserve.ensures.items
    c.push_reserved.ensures.items c.reserve.ensures.capacity c.push_reserved.ensures.capacity
