use Rattle.std.proofs.Common.{sym, ap, subst, ◌∙◌}
use Rattle.version_build.specs.Plans.{AreComplete}
use Rattle.version_build.proofs.Assembling.{database_from}
use Rattle.version_build.proofs.RowByRow.{parts_complete, parts_whole}
use Rattle.version_build.proofs.builder.Builder.finish.Goals as goal

pub comps_of-requires : goal.comps_of-requires
comps_of-requires c = parts_whole _ _ _ _ _ _ c.self.invariant.0 (ap (λ b. b.left) c.self.view_is ∙ c.requires)

pub assemble_labelled-version-requires-clause-database : goal.assemble_labelled-version-requires-clause-database
assemble_labelled-version-requires-clause-database c =
    let complete = parts_complete _ _ _ _ _ _ c.self.invariant.0 (ap (λ b. b.left) c.self.view_is ∙ c.requires) in
    database_from _ _ _ _ c.self.invariant.0.listed
    (subst (AreComplete c.self.inside.kind c.self.inside.labels) (sym c.in_ok-comps.ensures) complete)
