use Rattle.std.proofs.Common.{refl, sym, ◌∙◌}
use Rattle.version_build.proofs.Among.{pointwise_decides_cells}
use Rattle.version_build.proofs.planning.are_same.Goals as goal

pub returns : goal.returns
returns c =
    let decides = pointwise_decides_cells _ (λ x y. refl) c.args.a.now c.args.b.now in
    (λ same. decides.0 (sym c.eq.ensures ∙ same), λ same. c.eq.ensures ∙ decides.1 same)
