use Rattle.std.proofs.Common.{◌≡◌, map, take}
use Rattle.cell_order.specs.Orders.{ordered}
use Rattle.bake_parts.proofs.bake.ordered_all.Given as goal

abbrev pub invariant-loop-number : goal.invariant-loop-number
invariant-loop-number l = l.components.items ≡ map (ordered l.order) (take l.number l.labels)
