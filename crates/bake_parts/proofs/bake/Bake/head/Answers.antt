use Rattle.std.proofs.Common.{◌∷◌, [], length, ap, subst, ◌∙◌}
use Rattle.bake_parts.specs.Heads.{BeginsImage}
use Rattle.bake_parts.proofs.Heading.{few_all, head_is}
use Rattle.bake_parts.proofs.bake.Bake.head.Goals as goal

pub count_of-requires : goal.count_of-requires
count_of-requires c = rw c.as_slice.ensures.value (few_all _ _ _ c.self.invariant.0)

pub returns : goal.returns
returns c =
    let comps = c.count_of.ensures ∙ ap length c.as_slice.ensures.value in
    subst (λ plan. BeginsImage plan c.args.size (1752457584 ∷ 1734438249 ∷ 1 ∷ c.args.size
    ∷ c.width.result ∷ c.height.result ∷ 0 ∷ c.from.result ∷ c.passable_count.result ∷ c.count_of.result ∷ [])) c.self.view_is
    (head_is _ _ _ c.self.invariant.0 c.args.size c.width.result c.height.result c.from.result c.passable_count.result c.count_of.result
    c.width.ensures.width c.height.ensures.height (c.from.ensures ∙ c.number.ensures) c.passable_count.ensures comps)
