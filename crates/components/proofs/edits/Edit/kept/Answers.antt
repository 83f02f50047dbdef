use Rattle.std.proofs.Common.{◌≡◌, false, length, get_or, sym, ap, ◌∙◌, subst, arith}
use Rattle.std.proofs.lemmas.List.{get_or_default}
use Rattle.components.specs.Groups.{IsLabelOf}
use Rattle.components.specs.Edits.{Plan}
use Rattle.components.proofs.edits.Edit.kept.Goals as goal

pub returns-in-None-clause-none : goal.returns-in-None-clause-none
returns-in-None-clause-none c = λ label is.
    absurd (c.in-None.ensures.none label (subst (λ comps. IsLabelOf comps c.args.cell label) (sym (ap (λ (p : Plan). p.components) c.self.view_is)) is))

pub returns-then-index-clause-none : goal.returns-then-index-clause-none
returns-then-index-clause-none c = λ label is.
    let was = subst (λ comps. IsLabelOf comps c.args.cell label) (sym (ap (λ (p : Plan). p.components) c.self.view_is)) is in
    let e = c.of.ensures.alone label was in
    let same : c.in-Some.label ≡ label = cc in
    let low = is.below in
    let touched : c.self.inside.touched.items ≡ c.args.self.now.touched = ap (λ (p : Plan). p.touched) c.self.view_is in
    ap (λ t. get_or t label false) (sym touched)
    ∙ (ap (λ k. get_or c.self.inside.touched.items k false) (sym same)
    ∙ (get_or_default c.self.inside.touched.items c.in-Some.label false c.index.result.now (omega (arith, ap length touched, c.requires)) ∙ (sym c.index.ensures ∙ c.if-index.true)))
