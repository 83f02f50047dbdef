use Rattle.std.proofs.Common.{rules}
use Rattle.kept_rows.proofs.GateLoops.{best_first, best_less, best_same, best_still}
use Rattle.kept_rows.proofs.gates.by_least.Goals.{then-sum-least, else-sum-least+then-sum-least-2, else-sum-least+else-sum-least-2}
use Rattle.kept_rows.proofs.gates.by_least.Goals as goal

pub loop-lane-preserved : goal.loop-lane-preserved
loop-lane-preserved c = elim c.if-sum-least.branch [
  | then-sum-least w ↦ rw (w.least-is, w.set-is) (best_less _ _ _ _ _ _ _ (search rules) c.loop-lane.invariant (search rules) (search rules))
  | else-sum-least+then-sum-least-2 w ↦ rw (w.least-is, w.set-is) (best_same _ _ _ _ _ _ c.loop-lane.invariant (search rules))
  | else-sum-least+else-sum-least-2 w ↦ rw (w.least-is, w.set-is) (best_still _ _ _ _ _ _ c.loop-lane.invariant (search rules))
]
