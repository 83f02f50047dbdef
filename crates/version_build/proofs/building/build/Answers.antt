use Rattle.version_build.proofs.Counted.{can_be_built}
use Rattle.version_build.proofs.building.build.Goals as goal

pub complete-requires-clause-cells : goal.complete-requires-clause-cells
complete-requires-clause-cells g c κs longer = λ label less.
    can_be_built _ c.width.ensures.limits c.width.ensures.whole _ c.plan.invariant.listed label less c.plan.invariant.searchable
