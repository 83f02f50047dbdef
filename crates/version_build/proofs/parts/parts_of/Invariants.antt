use Rattle.std.specs.Vec.Iter.{into_iter_items}
use Rattle.std.specs.Arc.{arc_value}
use Rattle.version_build.proofs.RowByRow.{IsParting}
use Rattle.version_build.proofs.parts.parts_of.Given as goal

abbrev pub invariant-loop-kept : goal.invariant-loop-kept
invariant-loop-kept l =
    (goal.iterator-loop-kept).can_next l.kept-iterator ×
    (goal.iterator-loop-kept).is_finite l.kept-iterator ×
    IsParting arc_value l.kind l.labels l.fn.comps.items (into_iter_items l.kept-iterator) l.parts.items
