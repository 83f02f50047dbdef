-- The component of a walk.
use Rattle.std.proofs.Common.{◌≡◌, ℕ, List, [], length, Contains, sym, ap, subst, ◌∙◌}
use Rattle.std.specs.List.Sorted.{IsPermutation}
use Rattle.std.proofs.lemmas.List.Sorted.{Contains-permutation, IsPermutation-sym}
use Rattle.moves.specs.declared.Cell.{Cell}
use Rattle.moves.specs.declared.Move.{Move}
use Rattle.moves.specs.Maps.{Map, IsPassable, IsSearchable}
use Rattle.moves.specs.Paths.{Reaches}
use Rattle.moves.specs.Components.{IsComponentList}
use Rattle.moves.specs.PathLaws.{back_along}
use Rattle.moves.specs.ComponentLaws.{HasJust}
use Rattle.moves.proofs.LawsOfPaths.{leads_back}
use Rattle.moves.proofs.ComponentLaws.{components_are_connected}
use Rattle.components.specs.Groups.{IsLabelOf}
use Rattle.cell_order.specs.Orders.{ordered}
use Rattle.cell_order.proofs.Permuted.{orders_are_permutations}
use Rattle.row_store.proofs.RowLaws.{HasJust-permuted}
use Rattle.build_pool.specs.Places.{CanBeBuilt}
use Rattle.build_pool.proofs.Connecting.{sources_in_order}
use Rattle.versions.proofs.Determined.{same_component}
use Rattle.versions.proofs.Homes.{labelled}
use Rattle.versions.specs.Databases.{component_at}
use Rattle.version_build.proofs.Counted.{can_be_built}
use Rattle.walk_rows.specs.declared.along.Route.{Route}
use Rattle.walk_rows.specs.Existing.{IsWhole}
use Rattle.walk_rows.specs.Walks.{CanBeWalked, IsHome, IsKeptOver}
use Rattle.walk_rows.proofs.Listing.{components_exist}

-- the other end of a path
pub back : (map : Map) (a b : Cell) → Reaches map a b → Reaches map b a
back map a b reach = (back_along reach.0, leads_back map a b reach.0 reach.1)

-- the cells with the label of the goal, in their order
pub home_of_label : (map : Map) (route : Route) (labels : List (List Cell)) → IsComponentList map labels → (label : ℕ) → IsLabelOf labels route.goal label
    → (cells : List Cell) → cells ≡ ordered route.order (component_at labels label) → IsHome map route cells
home_of_label map route labels listed label is cells kept = record {
  component = component_at labels label;
  is = listed.each label [] is.below;
  arrives = is.has;
  kept = kept;
}

module _ (map : Map) (route : Route) (cells : List Cell) (home : IsHome map route cells) where
  permuted : IsPermutation cells home.component
  permuted = subst (λ cs. IsPermutation cs home.component) (sym home.kept)
      (orders_are_permutations route.order home.component home.is.some home.is.in_order (components_are_connected map home.component home.is))

  -- a cell from which a path leads to the goal
  pub in_component : (cell : Cell) → Reaches map cell route.goal → Contains home.component cell
  in_component cell reach = (home.is.whole route.goal cell home.arrives).1 (back map cell route.goal reach)

  pub among : (cell : Cell) → Reaches map cell route.goal → Contains cells cell
  among cell reach = Contains-permutation home.component cells cell (IsPermutation-sym cells home.component permuted) (in_component cell reach)

  pub goal_among : Contains cells route.goal
  goal_among = Contains-permutation home.component cells route.goal (IsPermutation-sym cells home.component permuted) home.arrives

  pub just_component : (part : Map) → HasJust part cells → HasJust part home.component
  just_component part just = HasJust-permuted part home.component cells permuted just

  -- there is one such list
  pub one_home : (others : List Cell) → IsHome map route others → cells ≡ others
  one_home others other =
      home.kept ∙ ap (ordered route.order) (same_component map home.component other.component route.goal home.is other.is home.arrives other.arrives) ∙ sym other.kept

  -- what is kept in it is kept in each
  pub kept_at_home : (at : Cell) (move : Move) → IsKeptOver cells at route.goal move → (others : List Cell) → IsHome map route others → IsKeptOver others at route.goal move
  kept_at_home at move kept others other = subst (λ cs. IsKeptOver cs at route.goal move) (one_home others other) kept

  can_be : IsWhole map → IsSearchable map → IsPassable map route.goal → CanBeBuilt home.component
  can_be whole searchable passable =
      let listed = components_exist map whole in
      let label = labelled map listed.0 route.goal listed.1 passable in
      let can = can_be_built map whole.limits whole.cells listed.0 listed.1 label.0 label.1.below searchable in
      subst CanBeBuilt (same_component map (component_at listed.0 label.0) home.component route.goal (listed.1.each label.0 [] label.1.below) home.is label.1.has home.arrives) can

  pub walkable : IsWhole map → IsSearchable map → IsPassable map route.goal → CanBeWalked map cells
  walkable whole searchable passable = record {
    sources = sources_in_order home.component cells (record { same = permuted; can = can_be whole searchable passable });
    component = record { component = home.component; is = home.is; order = permuted };
  }
