use Rattle.std.specs.Vec.Iter.{into_iter_items}
use Rattle.std.specs.Arc.{arc_value}
use Rattle.version_build.proofs.Assembling.{IsAssembling}
use Rattle.version_build.proofs.building.complete.Given as goal

abbrev pub invariant-loop-known : goal.invariant-loop-known
invariant-loop-known g l =
    (goal.iterator-loop-known g).can_next l.known-iterator ×
    (goal.iterator-loop-known g).is_finite l.known-iterator ×
    IsAssembling arc_value l.kind l.labels l.fn.prepared.comps.items (into_iter_items l.known-iterator) l.comps.items
