use Rattle.std.proofs.Common.{◌∙◌}
use Rattle.kept_rows.proofs.GateLoops.{judged_further}
use Rattle.kept_rows.proofs.gates.keep_by_gates.Goals as goal

pub loop-place-preserved : goal.loop-place-preserved
loop-place-preserved c = (
  c.keep_if_stays.ensures.size ∙ c.loop-place.invariant.0,
  judged_further _ _ _ _ _ c.loop-place.invariant.1 c.keep_if_stays.ensures.judged,
)
