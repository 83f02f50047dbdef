use Rattle.components.proofs.Touching.{around_from}
use Rattle.components.proofs.edits.touch_around.Goals as goal

pub returns-then-inside-clause-marked : goal.returns-then-inside-clause-marked
returns-then-inside-clause-marked c =
    around_from _ _ _ _ _ _ _ _ c.touch.ensures.marked
    c.touch_beside.ensures.kept c.touch_beside.ensures.marked
    c.touch_beside-then-inside.ensures.kept c.touch_beside-then-inside.ensures.marked
    c.touch_beside-then-inside-2.ensures.kept c.touch_beside-then-inside-2.ensures.marked
    c.touch_beside-then-inside-3.ensures.kept c.touch_beside-then-inside-3.ensures.marked
