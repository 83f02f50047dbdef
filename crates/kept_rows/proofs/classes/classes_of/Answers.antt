use Rattle.std.proofs.Common.{rules}
use Rattle.kept_rows.proofs.GateLoops.{classes_more}
use Rattle.kept_rows.proofs.classes.classes_of.Goals as goal

pub loop-place-preserved : goal.loop-place-preserved
loop-place-preserved c = classes_more _ _ _ _ _ _ _ c.loop-place.invariant c.in_ok-note_class.ensures.more (c.in_ok-note_class.ensures.classed (search rules))
