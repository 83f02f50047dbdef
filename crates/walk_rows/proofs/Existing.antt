-- Each map that may be searched has a database in each order.
use Rattle.std.proofs.Common.{ℕ, ◌<◌, ◌≤◌, List, [], length, Contains, refl, arith}
use Rattle.std.specs.List.Sorted.{IsPermutation}
use Rattle.std.proofs.lemmas.List.Elements.{Contains-get_or}
use Rattle.std.proofs.lemmas.List.Sorted.{Contains-permutation, length_permutation}
use Rattle.run_pack.specs.declared.Run.{Run}
use Rattle.moves.specs.declared.Cell.{Cell}
use Rattle.moves.specs.declared.TheConstants.{MAX_PASSABLE}
use Rattle.moves.specs.Maps.{Map}
use Rattle.moves.specs.Components.{IsComponent}
use Rattle.moves.specs.ComponentLaws.{HasJust}
use Rattle.moves.specs.FirstSetLists.{cell_of}
use Rattle.cell_order.specs.declared.OrderKind.{OrderKind}
use Rattle.cell_order.specs.Orders.{ordered}
use Rattle.cell_order.proofs.Permuted.{orders_are_permutations}
use Rattle.row_store.specs.Rows.{AreRows, IsRowFrom}
use Rattle.row_store.specs.Comps.{Comp}
use Rattle.build_pool.specs.Places.{AreComponent, AreSources, CanBeBuilt}
use Rattle.build_pool.proofs.Connecting.{IsReady, comp_in_order, component_in_order, packable}
use Rattle.versions.specs.Databases.{IsKeptAs, component_at, no_comp}
use Rattle.version_build.proofs.Assembling.{database_from}
use Rattle.version_build.proofs.Counted.{can_be_built}
use Rattle.version_build.proofs.JustThese.{just_map, just_these_cells}
use Rattle.walk_rows.specs.Existing.{DatabasesExist}
use Rattle.walk_rows.proofs.Lists.{IsListed, listed}
use Rattle.walk_rows.proofs.TightRows.{tight_row_exists}
use Rattle.walk_rows.proofs.FirstSetsExist.{first_sets_exist}
use Rattle.walk_rows.proofs.Listing.{components_exist}

module _ (map : Map) (cells : List Cell) (p : AreComponent map cells) (few : length cells ≤ MAX_PASSABLE) where
  in_component : (place : ℕ) → place < length cells → Contains p.component (cell_of cells place)
  in_component place within = Contains-permutation cells p.component (cell_of cells place) p.order (Contains-get_or cells place (record { x = 0; y = 0 }) within)

  -- the row of each cell
  pub row_exists : (place : ℕ) → place < length cells → (row : List Run) × IsRowFrom map cells (cell_of cells place) row
  row_exists place within =
      let sets = first_sets_exist map (cell_of cells place) cells
      (λ other there. (p.is.whole (cell_of cells place) (cell_of cells other) (in_component place within)).0 (in_component other there)) in
      let row = tight_row_exists sets.0 (packable map cells p place sets.0 within few sets.1) sets.1.bytes in
      (row.0, record { sets = sets.0; first = sets.1; tight = row.1 })

  -- and so all rows
  pub rows_listed : IsListed (λ place row. IsRowFrom map cells (cell_of cells place) row) [] (length cells)
  rows_listed = listed (λ place row. IsRowFrom map cells (cell_of cells place) row) [] (length cells) row_exists

-- cells whose rows can be built have rows
pub rows_exist : (cells : List Cell) → AreSources cells → (rows : List (List Run)) × AreRows cells rows
rows_exist cells p =
    let rows = rows_listed p.board cells (p.component p.board p.just) p.few in
    (rows.items, record { map = p.board; just = p.just; whole = rows.whole; each = rows.each })

-- a component has the database of its cells in each order
pub kept_exists : (map : Map) (order : OrderKind) (component : List Cell) → IsComponent map component → CanBeBuilt component → (comp : Comp) × IsKeptAs order component comp
kept_exists map order component is can =
    let cells : List Cell = ordered order component in
    let same : IsPermutation cells component = orders_are_permutations order component can.some can.in_order can.connected in
    let part : Map = just_map map component in
    let just : HasJust part component = just_these_cells map component is.passable in
    let ready : IsReady part component cells = record { given = record { same = same; can = can }; just = just } in
    let few : length cells ≤ MAX_PASSABLE = (let size = length_permutation cells component same in let few = can.few in omega arith) in
    let rows = rows_listed part cells (component_in_order part component cells ready) few in (
      record { kind = order; cells = cells; rows = rows.items },
      record { kind = refl; cells = refl; whole = comp_in_order part component cells ready order rows.items rows.whole rows.each },
    )

pub databases_exist : DatabasesExist
databases_exist map order whole searchable =
    let components = components_exist map whole in
    let comps = listed (λ label comp. IsKeptAs order (component_at components.0 label) comp) no_comp (length components.0)
    (λ label less. kept_exists map order (component_at components.0 label) (components.1.each label [] less) (can_be_built map whole.limits whole.cells components.0 components.1 label less searchable)) in
    (comps.items, database_from map order components.0 comps.items components.1 (record { long = comps.whole; each = λ label less. comps.each label (let size = comps.whole in omega arith) }))
