-- The copies of the components before this one.
use Rattle.std.proofs.Common.{◌≡◌, map, take}
use Rattle.std.specs.Arc.{arc_value}
use Rattle.board_cases.proofs.queries.copies.Given as goal

abbrev pub invariant-loop-comp : goal.invariant-loop-comp
invariant-loop-comp l = map arc_value l.copies.items ≡ map arc_value (take l.comp-index l.comps)
