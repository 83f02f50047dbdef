-- One row fewer is left each time, and the plan stays.
use Rattle.std.proofs.Common.{◌≡◌}
use Rattle.follow_node.proofs.building.build_version.Given as goal

abbrev pub decreases-loop-builder : goal.decreases-loop-builder
decreases-loop-builder l = l.builder.left

abbrev pub invariant-loop-builder : goal.invariant-loop-builder
invariant-loop-builder l =
    (l.builder.plan.map ≡ l.fn.grid) × (l.builder.plan.prefix ≡ l.fn.prefix) × (l.builder.plan.order ≡ l.fn.kind)
