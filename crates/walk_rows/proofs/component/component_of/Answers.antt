use Rattle.std.proofs.Common.{refl, subst, ◌∙◌, ap, IfSome}
use Rattle.cell_order.specs.Orders.{ordered}
use Rattle.components.specs.Groups.{IsLabelOf}
use Rattle.version_build.proofs.Counted.{can_be_built}
use Rattle.versions.proofs.Homes.{labelled}
use Rattle.walk_rows.proofs.Home.{home_of_label, walkable}
use Rattle.walk_rows.proofs.component.component_of.Goals as goal

pub unwrap-number-requires : goal.unwrap-number-requires
unwrap-number-requires c =
    let label = labelled _ _ c.args.route.goal c.in_ok-labels.ensures c.requires.goal in
    rw (c.of.ensures.alone label.0 label.1) refl

pub order_of-requires-clause-few : goal.order_of-requires-clause-few
order_of-requires-clause-few c =
    let is = subst (λ r. IfSome r (IsLabelOf c.in_ok-labels.labels c.args.route.goal)) c.unwrap-number.ensures c.of.ensures.some in
    rw c.cells.ensures (can_be_built _ c.width.ensures.limits c.width.ensures.whole _ c.in_ok-labels.ensures _ is.below c.requires.searchable).few

pub order_of-requires-clause-connected : goal.order_of-requires-clause-connected
order_of-requires-clause-connected c =
    let is = subst (λ r. IfSome r (IsLabelOf c.in_ok-labels.labels c.args.route.goal)) c.unwrap-number.ensures c.of.ensures.some in
    rw c.cells.ensures (can_be_built _ c.width.ensures.limits c.width.ensures.whole _ c.in_ok-labels.ensures _ is.below c.requires.searchable).connected

pub returns-clause-walked : goal.returns-clause-walked
returns-clause-walked c =
    let is = subst (λ r. IfSome r (IsLabelOf c.in_ok-labels.labels c.args.route.goal)) c.unwrap-number.ensures c.of.ensures.some in
    let home = home_of_label _ c.args.route _ c.in_ok-labels.ensures _ is _ (c.in_ok-cells.ensures.order ∙ ap (ordered c.args.route.order) c.cells.ensures) in
    walkable _ _ _ home (record { limits = c.width.ensures.limits; cells = c.width.ensures.whole }) c.requires.searchable c.requires.goal
