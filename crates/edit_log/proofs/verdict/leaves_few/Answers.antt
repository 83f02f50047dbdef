use Rattle.std.proofs.Common.{◌∙◌, ap}
use mir.Val.{bool_byte}
use Rattle.edit_log.proofs.EditVerdicts.{one_more_weighed}
use Rattle.edit_log.proofs.verdict.leaves_few.Goals as goal

pub loop-change-preserved : goal.loop-change-preserved
loop-change-preserved c = one_more_weighed _ _ _ _ _ _ _ _ _ c.requires.inside c.requires.once c.width.ensures.whole c.loop-change.invariant
    c.loop-change-test.true c.passable.ensures c.from-lost.ensures (c.from-gained.ensures ∙ ap bool_byte c.is_passable.ensures)
