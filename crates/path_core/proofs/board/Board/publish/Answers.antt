use Rattle.path_core.proofs.BoardSteps.{publish_kept, publications_fit}
use Rattle.path_core.proofs.board.Board.publish.Goals as goal

pub overflow_add-self : goal.overflow_add-self
overflow_add-self c = publications_fit _ _ _ c.self.invariant.legal c.self.invariant.published_is

pub invariant_of-self-2 : goal.invariant_of-self-2
invariant_of-self-2 c = publish_kept _ _ _ _ _ _ _ _ _ _ _ _ _ _ _ _ _ _ _ _ c.self.invariant c.self.view_is c.requires.may c.deref.ensures
    c.prefix-by.ensures c.deref-2.ensures c.prefix-prefix.ensures c.if-prefix-by.false c.reserve.ensures.items
    c.push_reserved.ensures.items c.reserve.ensures.capacity c.push_reserved.ensures.capacity
