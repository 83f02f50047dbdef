use Rattle.std.proofs.Common.{arith}
use Rattle.version_build.proofs.Counted.{can_be_built}
use Rattle.version_build.proofs.RowByRow.{under_way_begun}
use Rattle.version_build.proofs.builder.Builder.begin.Goals as goal

pub parts_of-requires-clause-cells : goal.parts_of-requires-clause-cells
parts_of-requires-clause-cells c = λ label less.
    can_be_built _ c.width.ensures.limits c.width.ensures.whole _ c.plan.invariant.listed label less c.plan.invariant.searchable

pub invariant_of-result : goal.invariant_of-result
invariant_of-result c = (
  under_way_begun _ _ _ _ _ _ c.plan.invariant.searchable
      (λ label less. can_be_built _ c.width.ensures.limits c.width.ensures.whole _ c.plan.invariant.listed label less c.plan.invariant.searchable)
      c.plan.invariant.listed c.plan.invariant.prepared c.in_ok-parts.ensures c.plan.invariant.missing,
  omega (arith, c.in_ok-plain.ensures),
)
