use Rattle.std.proofs.Common.{◌≡◌, ◌<◌, ◌≤◌, [], length, slice_index_or, ◌∙◌, rules}
use Rattle.moves.specs.declared.TheConstants.{MAX_PASSABLE}
use Rattle.moves.specs.Components.{IsComponent}
use Rattle.moves.proofs.ComponentLaws.{components_are_connected}
use Rattle.build_pool.proofs.Connecting.{lies_on_map}
use Rattle.row_cases.proofs.shapes.first_component.Goals as goal

pub returns-clause-component : goal.returns-clause-component
returns-clause-component c =
    let some : 0 < length c.in_ok-labels.labels = search rules in
    rw (c.in_ok-cells.ensures.items ∙ c.cells-first.ensures) (c.in_ok-labels.ensures.each 0 [] some)

pub returns-clause-built : goal.returns-clause-built
returns-clause-built c =
    let some : 0 < length c.in_ok-labels.labels = search rules in
    let component : IsComponent c.args.grid.now (slice_index_or c.in_ok-labels.labels 0 []) = c.in_ok-labels.ensures.each 0 [] some in
    let same : c.in_ok-cells.cells.items ≡ slice_index_or c.in_ok-labels.labels 0 [] = c.in_ok-cells.ensures.items ∙ c.cells-first.ensures in
    let few : length c.in_ok-cells.cells.items ≤ MAX_PASSABLE = search rules in
    record {
      some = rw same component.some;
      few = few;
      in_order = rw same component.in_order;
      connected = rw same (components_are_connected _ _ component);
      on_map = rw same (lies_on_map _ _ c.width.ensures.limits component);
    }
