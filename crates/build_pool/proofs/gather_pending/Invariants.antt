use Rattle.std.proofs.Common.{All, IfOk}
use Rattle.std.specs.Vec.Iter.{into_iter_items}
use Rattle.build_pool.proofs.gather_pending.Given as goal

abbrev pub invariant-loop-share : goal.invariant-loop-share
invariant-loop-share g l =
    (goal.iterator-loop-share g).can_next l.share-iterator ×
    (goal.iterator-loop-share g).is_finite l.share-iterator ×
    All (λ share. IfOk share (g.H.Harvest.gathered l.cells)) (into_iter_items l.share-iterator) ×
    g.H.Harvest.gathered l.cells l.all
