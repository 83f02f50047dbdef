use Rattle.std.proofs.Common.{◌≡◌, ◌∷◌, length, ap, ◌∙◌, arith}
use Rattle.std.specs.Vec.Iter.{into_iter_items}
use Rattle.std.specs.Arc.{arc_value}
use Rattle.std.specs.Option.{option_map}
use Rattle.versions.specs.Databases.{component_at}
use Rattle.version_build.specs.Builders.{part_from}
use Rattle.version_build.proofs.RowByRow.{parting_more}
use Rattle.version_build.proofs.parts.parts_of.Goals as goal

pub loop-kept-preserved : goal.loop-kept-preserved
loop-kept-preserved c =
    let steps : into_iter_items c.loop-kept.kept-iterator ≡ c.in-Some.kept ∷ into_iter_items c.next.new.self = c.in-Some.ensures.steps.0 in
    let joined = rw steps at c.loop-kept.invariant.2 in
    let place : c.len-label.result ≡ length c.loop-kept.parts.items = omega (arith, c.len-label.ensures, c.loop-kept.parts.ok.0) in
    let cells : c.cells-cells.result.now ≡ component_at c.args.labels.now (length c.loop-kept.parts.items) = c.cells-cells.ensures ∙ ap (component_at c.args.labels.now) place in (
      tt,
      tt,
      rw c.in_ok-push.ensures.items
          (parting_more _ _ _ _ _ _ _ joined _ c.requires.long c.requires.cells
          (c.in_ok-of.ensures ∙ ap (λ cs. part_from c.args.kind cs (option_map arc_value c.in-Some.kept)) cells)),
    )
