use Rattle.std.proofs.Common.{◌+◌, sym, subst}
use Rattle.std.specs.Arc.{arc_value}
use Rattle.versions.specs.Databases.{IsKeptAs}
use Rattle.bake_words.proofs.Building.{AreBuilt, built_more}
use Rattle.bake_words.proofs.alone.comps_of.Goals as goal

pub loop-label-preserved : goal.loop-label-preserved
loop-label-preserved c =
    subst (λ items. AreBuilt arc_value c.args.kind c.args.labels.now items (c.loop-label.label + 1)) (sym c.in_ok-push.ensures.items)
    (built_more arc_value c.args.kind c.args.labels.now c.loop-label.comps.items c.loop-label.label c.in_ok-comp_of.field-0 c.loop-label.invariant
    (subst (λ cells. IsKeptAs c.args.kind cells (arc_value c.in_ok-comp_of.field-0)) c.cells.ensures c.in_ok-comp_of.ensures))
