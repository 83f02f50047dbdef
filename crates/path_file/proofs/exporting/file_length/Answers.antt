use Rattle.std.proofs.Common.{◌≡◌, ◌+◌, ◌*◌, ◌^◌, ◌≤◌, List, Global, length, map, take, ap, sym, subst, ◌∙◌, arith}
use Rattle.std.specs.Arc.{arc_value}
use Rattle.std.specs.List.{sum_by}
use Rattle.std.proofs.lemmas.List.{length-map}
use Rattle.moves.specs.Maps.{Map, IsWithinLimits}
use Rattle.row_store.specs.Comps.{Comp}
use Rattle.versions.specs.Databases.{comp_at}
use Rattle.path_file.proofs.LengthLemmas.{comp_adds, comp_length, comp_of_item, count_all, count_fits, count_more, length-file}
use Rattle.path_file.proofs.exporting.file_length.Goals as goal

pub overflow_add-count-in-loop-comp-2 : goal.overflow_add-count-in-loop-comp-2
overflow_add-count-in-loop-comp-2 c =
    let v = c.args.version.now in
    let k = c.loop-comp.comp-index in
    let items = c.comps-comps.result.now in
    let less = c.loop-comp-test.true in
    let comp = comp_of_item arc_value items k c.comp-item.result c.deref.result.now less c.comp-item.is c.deref.ensures in
    let one : c.deref-in-loop-comp.result.now ≡ c.deref.result.now = c.deref-in-loop-comp.ensures ∙ sym c.deref.ensures in
    let adds = comp_adds (map arc_value items) k c.deref.result.now c.cells.result.now c.runs.result comp c.cells.ensures.whole c.cells.ensures.cells
    (c.runs.ensures.runs ∙ ap (λ (d : Comp). sum_by length d.rows) one) in
    let limits = subst (λ (m : Map). IsWithinLimits m.width m.height) c.grid-grid.ensures.map c.width.ensures.limits in
    let whole : length v.map.terrain ≡ v.map.width * v.map.height = subst (λ (m : Map). length m.terrain ≡ m.width * m.height) c.grid-grid.ensures.map c.width.ensures.whole in
    let long : length items ≡ length v.comps = sym (length-map items arc_value) ∙ ap length c.comps-comps.ensures in
    let fits = subst (λ (cs : List Comp). sum_by comp_length (take k cs) + comp_length (comp_at cs k) ≤ 2 ^ 60) (sym c.comps-comps.ensures)
    (count_fits v c.grid-grid.ensures.version limits whole k (omega (arith, less, long))) in
    omega (arith, fits, adds, c.loop-comp.invariant, whole, limits.cells)

pub loop-comp-preserved : goal.loop-comp-preserved
loop-comp-preserved c =
    let k = c.loop-comp.comp-index in
    let items = c.comps-comps.result.now in
    let less = c.loop-comp-test.true in
    let comp = comp_of_item arc_value items k c.comp-item.result c.deref.result.now less c.comp-item.is c.deref.ensures in
    let one : c.deref-in-loop-comp.result.now ≡ c.deref.result.now = c.deref-in-loop-comp.ensures ∙ sym c.deref.ensures in
    let adds = comp_adds (map arc_value items) k c.deref.result.now c.cells.result.now c.runs.result comp c.cells.ensures.whole c.cells.ensures.cells
    (c.runs.ensures.runs ∙ ap (λ (d : Comp). sum_by length d.rows) one) in
    let long = length-map items (arc_value {X = Comp} {Z = Global}) in
    let more = count_more (map arc_value items) k (omega (arith, less, long)) in
    let so_far = c.loop-comp.invariant in
    omega (arith, more, adds, so_far)

pub returns : goal.returns
returns c =
    let items = c.comps-comps.result.now in
    let long = length-map items (arc_value {X = Comp} {Z = Global}) in
    let all = count_all (map arc_value items) c.loop-comp.comp-index (omega (arith, c.loop-comp-test.false, long)) in
    c.loop-comp.invariant ∙ ap (λ n. 21 + length c.args.version.now.map.terrain + n) (all ∙ ap (sum_by comp_length) c.comps-comps.ensures) ∙ sym (length-file c.args.version.now)
