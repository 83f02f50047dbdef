use Rattle.std.specs.Vec.Iter.{into_iter_items}
use Rattle.std.specs.Arc.{arc_value}
use Rattle.path_file.proofs.CheckLemmas.{AreMade}
use Rattle.path_file.proofs.checking.comps_of.Given as goal

abbrev pub invariant-loop-part : goal.invariant-loop-part
invariant-loop-part l =
    (goal.iterator-loop-part).can_next l.part-iterator ×
    (goal.iterator-loop-part).is_finite l.part-iterator ×
    AreMade arc_value l.order l.fn.parts.items (into_iter_items l.part-iterator) l.comps.items
