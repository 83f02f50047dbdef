use Rattle.std.proofs.Common.{◌≡◌, true, false, get_or, set, ap, ◌∙◌, arith}
use Rattle.std.proofs.lemmas.List.{get_or-set_same}
use Rattle.components.proofs.edits.touch.Goals as goal

pub returns-in-Some-clause-marked : goal.returns-in-Some-clause-marked
returns-in-Some-clause-marked c = λ label is.
    let e = c.of.ensures.alone label is in
    let same : label ≡ c.in-Some.label = cc in
    let low = is.below in
    ap (λ k. get_or (set c.args.touched.now c.in-Some.label true) k false) same
    ∙ get_or-set_same c.args.touched.now c.in-Some.label true false (omega (arith, c.requires))

pub returns-in-None-clause-marked : goal.returns-in-None-clause-marked
returns-in-None-clause-marked c = λ label is. absurd (c.in-None.ensures.none label is)
