use Rattle.std.proofs.Common.{◌-◌, ◌<◌, length, ap, inl, inr, arith}
use Rattle.versions.proofs.Counting.{count_small}
use Rattle.version_build.proofs.Sharing.{room_shared, sharing_next, shared_counts, shared_missing, shared_sum}
use Rattle.version_build.proofs.planning.share.Goals as goal
use Rattle.version_build.proofs.planning.share.Goals.{then-is_some, else-is_some}

pub overflow_cast-kept : goal.overflow_cast-kept
overflow_cast-kept c =
    let room = room_shared _ _ _ _ _ _ c.loop-label.invariant _ c.width.ensures.limits c.width.ensures.whole c.requires (omega (arith, c.loop-label-test.true)) in
    omega (arith, room, count_small _ c.width.ensures.limits c.width.ensures.whole _ c.requires, ap length c.cells-cells.ensures)

pub overflow_add-kept : goal.overflow_add-kept
overflow_add-kept c =
    let room = room_shared _ _ _ _ _ _ c.loop-label.invariant _ c.width.ensures.limits c.width.ensures.whole c.requires (omega (arith, c.loop-label-test.true)) in
    omega (arith, room, count_small _ c.width.ensures.limits c.width.ensures.whole _ c.requires, ap length c.cells-cells.ensures)

pub overflow_sub-report : goal.overflow_sub-report
overflow_sub-report c =
    let sum = shared_sum _ _ _ _ _ _ c.loop-label.invariant _ c.width.ensures.limits c.width.ensures.whole c.requires (omega (arith, c.loop-label-test.false)) in
    omega (arith, sum, c.passable_count.ensures)

pub returns-clause-counts : goal.returns-clause-counts
returns-clause-counts c =
    shared_counts _ _ _ _ _ _ c.loop-label.invariant _ c.width.ensures.limits c.width.ensures.whole c.requires (omega (arith, c.loop-label-test.false))
    _ c.labels-known.ensures _ (ap (λ n. n - c.loop-label.kept) c.passable_count.ensures)

pub returns-clause-sum : goal.returns-clause-sum
returns-clause-sum c =
    let sum = shared_sum _ _ _ _ _ _ c.loop-label.invariant _ c.width.ensures.limits c.width.ensures.whole c.requires (omega (arith, c.loop-label-test.false)) in
    omega (arith, sum, c.passable_count.ensures)

pub returns-clause-missing : goal.returns-clause-missing
returns-clause-missing c =
    let missing = shared_missing _ _ _ _ _ _ c.loop-label.invariant _ c.width.ensures.limits c.width.ensures.whole c.requires (omega (arith, c.loop-label-test.false)) in
    omega (arith, missing, c.passable_count.ensures)

pub loop-label-preserved : goal.loop-label-preserved
loop-label-preserved c =
    let less : c.loop-label.label < length c.args.labels.now = omega (arith, c.loop-label-test.true) in
    sharing_next _ _ _ _ _ _ _ _ _ _ _ _ c.loop-label.invariant less c.cells-cells.ensures c.in_ok-comp.ensures c.in_ok-push.ensures.items c.is_some.ensures
    (elim c.if-is_some.branch [
      | then-is_some w ↦ inl (w.if-is_some.true, w.kept-is)
      | else-is_some w ↦ inr (w.if-is_some.false, w.kept-is)
    ])
