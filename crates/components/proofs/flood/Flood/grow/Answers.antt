use Rattle.std.proofs.Common.{◌++◌, eqb, ap, ◌∙◌, subst, sym}
use Rattle.std.specs.List.{Contains, filter}
use Rattle.moves.specs.Components.{IsComponent}
use Rattle.components.specs.Marks.{label_at}
use Rattle.components.proofs.Growing.{on_ok, taken_over, flooded_again}
use Rattle.components.proofs.flood.Flood.grow.Goals as goal

pub returns-in-Some-clause-cells : goal.returns-in-Some-clause-cells
returns-in-Some-clause-cells c =
    let k = c.in-Some.ensures.some in
    let is = subst (IsComponent c.args.grid.now) (sym k.same) (c.requires.plan.kept k.label k.labels.below k.untouched) in
    let has = subst (λ xs. Contains xs c.args.root) (sym k.same) k.labels.has in
    on_ok _ _ _ _ _ c.take_over.ensures.cells c.take_over.ensures.spread c.take_over.ensures.flooded
    (λ cells spread after.
    cells ∙ ap (λ xs. c.args.cells.now.items ++ xs) (taken_over _ c.requires.limits _ c.requires.label _ _ c.requires.root c.requires.flooded _ spread after _ is has))

pub returns-in-None-clause-cells : goal.returns-in-None-clause-cells
returns-in-None-clause-cells c =
    on_ok _ _ _ _ _ c.flood_again.ensures.cells c.flood_again.ensures.spread c.flood_again.ensures.flooded
    (λ cells spread after. cells ∙ ap (λ xs. c.args.cells.now.items ++ xs)
    (ap (λ xs. filter (λ d. eqb (label_at c.args.grid.now.width c.flood_again.new.self d) c.args.label) xs) c.seeds.ensures
    ∙ flooded_again _ c.requires.limits _ c.requires.label _ _ c.requires.root c.requires.flooded _ spread after _ c.requires.plan c.requires.seed c.in-None.ensures.none))
