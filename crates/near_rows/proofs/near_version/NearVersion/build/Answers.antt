use Rattle.std.proofs.Common.{◌∙◌}
use Rattle.near_rows.proofs.BothBuilt.{near_version_from}
use Rattle.near_rows.proofs.near_version.NearVersion.build.Goals as goal

pub of-requires-clause-near : goal.of-requires-clause-near
of-requires-clause-near g c =
    near_version_from _ _ _ _ _ (c.in_ok-new.ensures.ok ∙ c.assemble_labelled-version.ensures) c.requires.searchable c.in_ok-comps.ensures.database c.in_ok-comps.ensures.near
