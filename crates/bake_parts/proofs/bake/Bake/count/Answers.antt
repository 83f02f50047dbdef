use Rattle.std.proofs.Common.{length, ap, ◌∙◌, subst}
use Rattle.bake_parts.specs.Plans.{CountsComponents}
use Rattle.bake_parts.proofs.Heading.{few_all}
use Rattle.bake_parts.proofs.Ordering.{counted}
use Rattle.bake_parts.proofs.bake.Bake.count.Goals as goal

pub count_of-requires : goal.count_of-requires
count_of-requires c = rw c.as_slice.ensures.value (few_all _ _ _ c.self.invariant.0)

pub returns : goal.returns
returns c =
    let count = c.count_of.ensures ∙ ap length c.as_slice.ensures.value in
    subst (λ plan. CountsComponents plan c.count_of.result) c.self.view_is (rw count (counted _ _ _ c.self.invariant.0))
