use Rattle.std.proofs.Common.{refl}
use Rattle.components.proofs.Changing.{changed_none, changed_more, changed_longer}
use Rattle.row_cases.proofs.edits.edited.Goals as goal
use Rattle.row_cases.proofs.edits.edited.Goals.{then-inside, else-inside}

pub loop-init : goal.loop-init
loop-init c = rw (c.in_ok-new.ensures, c.new-changed.ensures.items) (record { width = refl; height = refl }, changed_none _)

pub loop-preserved : goal.loop-preserved
loop-preserved c =
    let before = c.loop.invariant in
    elim c.if-inside.branch [
      | then-inside w ↦
          rw (w.new-is, w.set_terrain.ensures, c.in_ok-push.ensures.items)
          (record { width = before.0.width; height = before.0.height }, changed_more _ _ _ before.0 before.1 _ _ (c.inside.ensures.0 w.if-inside.true))
      | else-inside w ↦ rw (w.new-is, c.in_ok-push.ensures.items) (before.0, changed_longer _ c.loop.new _ before.1 _)
    ]
