use Rattle.std.proofs.Common.{map, ap, ◌<◌, length, arith}
use Rattle.std.specs.Arc.{arc_value}
use Rattle.std.proofs.lemmas.List.{map_push}
use Rattle.version_build.proofs.Counted.{can_be_built}
use Rattle.near_rows.proofs.BothBuilt.{built_none, built_more}
use Rattle.near_rows.proofs.both.parts_of.Goals as goal

pub loop-label-init : goal.loop-label-init
loop-label-init g c = built_none _ _ _ _ _ (ap (map arc_value) c.in_ok-comps.ensures.items) c.in_ok-nearby.ensures.items

pub part_of-requires-clause-cells : goal.part_of-requires-clause-cells
part_of-requires-clause-cells g c κs longer =
    let less : c.loop-label.label < length c.args.labels.now = omega (arith, c.loop-label-test.true, c.count-label-end.ensures) in
    rw c.cells.ensures (can_be_built _ c.width.ensures.limits c.width.ensures.whole _ c.requires.listed c.loop-label.label less c.requires.searchable)

pub loop-label-preserved : goal.loop-label-preserved
loop-label-preserved g c =
    let kept = rw c.cells.ensures at c.in_ok-comp.ensures.comp in
    rw (c.in_ok-push.ensures.items, map_push arc_value c.loop-label.comps.items c.in_ok-comp.comp, c.in_ok-push-2.ensures.items)
    (built_more _ _ _ _ _ _ c.loop-label.invariant _ _ kept c.in_ok-comp.ensures.near)
