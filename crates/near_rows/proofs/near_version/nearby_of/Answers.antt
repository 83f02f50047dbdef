use Rattle.std.proofs.Common.{◌≡◌, length, map, sym, ap, subst, ◌∙◌, arith}
use Rattle.std.specs.Arc.{arc_value}
use Rattle.std.proofs.lemmas.List.{get_or-map, length-map}
use Rattle.versions.specs.Databases.{comp_at, no_comp}
use Rattle.near_rows.specs.NearRows.{AreNear}
use Rattle.near_rows.proofs.NearWalking.{ground_at, near_to_more}
use Rattle.near_rows.proofs.near_version.nearby_of.Goals as goal

pub near_rows_of-requires : goal.near_rows_of-requires
near_rows_of-requires c =
    let items = c.comps-comp-items.result.now in
    let k = c.loop-comp.comp-index in
    let inside = c.loop-comp-test.true in
    let size : length (map arc_value items) ≡ length items = length-map items arc_value in
    let many = ap length c.comps-comp-items.ensures in
    let read : comp_at (map arc_value items) k ≡ c.deref.result.now =
    get_or-map arc_value items k c.comp-item.result no_comp inside ∙ ap arc_value (sym c.comp-item.is) ∙ sym c.deref.ensures in
    let at : comp_at c.args.version.now.comps k ≡ c.deref.result.now = subst (λ cs. comp_at cs k ≡ c.deref.result.now) c.comps-comp-items.ensures read in
    ground_at c.args.version.now c.grid-grid.ensures.version k c.deref.result.now _ _ (omega arith) at c.grid-grid.ensures.map c.cells.ensures.cells

pub loop-comp-preserved : goal.loop-comp-preserved
loop-comp-preserved c =
    let items = c.comps-comp-items.result.now in
    let k = c.loop-comp.comp-index in
    let inside = c.loop-comp-test.true in
    let read : comp_at (map arc_value items) k ≡ c.deref.result.now =
    get_or-map arc_value items k c.comp-item.result no_comp inside ∙ ap arc_value (sym c.comp-item.is) ∙ sym c.deref.ensures in
    let at : comp_at c.args.version.now.comps k ≡ c.deref.result.now = subst (λ cs. comp_at cs k ≡ c.deref.result.now) c.comps-comp-items.ensures read in
    let near = c.in_ok-near_rows_of.ensures in
    let over = subst (λ m. AreNear m c.cells.result.now c.in_ok-near_rows_of.field-0) c.grid-grid.ensures.map near in
    let among = subst (λ cells. AreNear c.args.version.now.map cells c.in_ok-near_rows_of.field-0) c.cells.ensures.cells over in
    let here = subst (λ comp. AreNear c.args.version.now.map comp.cells c.in_ok-near_rows_of.field-0) (sym at) among in
    near_to_more _ _ _ _ _ c.loop-comp.invariant c.in_ok-push.ensures.items here
