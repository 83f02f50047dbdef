use Rattle.std.proofs.Common.{◌≡◌, ◌+◌, ◌*◌, ◌≤◌, length, ap, subst, ◌∙◌, arith}
use Rattle.moves.specs.declared.TheConstants.{MAX_CELLS}
use Rattle.bake_parts.specs.Heads.{CountsBefore}
use Rattle.bake_parts.proofs.Heading.{before_tables, few_all}
use Rattle.bake_parts.proofs.bake.Bake.tables_at.Goals as goal

pub count_of-count-requires : goal.count_of-count-requires
count_of-count-requires c = rw c.as_slice.ensures.value (few_all _ _ _ c.self.invariant.0)

pub overflow_add-result-2 : goal.overflow_add-result-2
overflow_add-result-2 c =
    let comps : c.count_of-count.result ≡ length c.self.inside.components.items = c.count_of-count.ensures ∙ ap length c.as_slice.ensures.value in
    let few = few_all _ _ _ c.self.invariant.0 in
    let cells : c.width-width.result * c.height-height.result ≤ MAX_CELLS = rw (c.width-width.ensures.width, c.height-height.ensures.height) c.width-width.ensures.limits.cells in
    omega arith

pub returns-clause-size : goal.returns-clause-size
returns-clause-size c =
    let comps : c.count_of-count.result ≡ length c.self.inside.components.items = c.count_of-count.ensures ∙ ap length c.as_slice.ensures.value in
    subst (λ plan. CountsBefore plan (10 + c.width-width.result * c.height-height.result + c.count_of-count.result)) c.self.view_is
    (before_tables _ _ _ c.self.invariant.0 c.width-width.result c.height-height.result c.count_of-count.result c.width-width.ensures.width c.height-height.ensures.height comps)

pub returns-clause-few : goal.returns-clause-few
returns-clause-few c =
    let comps : c.count_of-count.result ≡ length c.self.inside.components.items = c.count_of-count.ensures ∙ ap length c.as_slice.ensures.value in
    let few = few_all _ _ _ c.self.invariant.0 in
    let cells : c.width-width.result * c.height-height.result ≤ MAX_CELLS = rw (c.width-width.ensures.width, c.height-height.ensures.height) c.width-width.ensures.limits.cells in
    omega arith
