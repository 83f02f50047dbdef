use Rattle.std.proofs.Common.{◌≡◌, ◌++◌, map}
use Rattle.std.specs.Vec.Iter.{into_iter_items}
use Rattle.std.specs.Arc.{arc_value}
use Rattle.version_build.specs.Builders.{comp_of}
use Rattle.version_build.proofs.parts.comps_of.Given as goal

abbrev pub invariant-loop-part : goal.invariant-loop-part
invariant-loop-part l =
    (goal.iterator-loop-part).can_next l.part-iterator ×
    (goal.iterator-loop-part).is_finite l.part-iterator ×
    (map arc_value l.comps.items ++ map (comp_of l.kind) (into_iter_items l.part-iterator) ≡ map (comp_of l.kind) l.fn.parts.items)
