-- The database of a map: for each of its components, the cells in the given order and a row for each of them.
-- (Botea 2011; Strasser, Harabor and Botea 2014)
use Rattle.std.specs.Prelude.{◌≡◌, ℕ, ◌<◌, List, [], length, slice_index_or, sum_by}
use Rattle.moves.specs.declared.Cell.{Cell}
use Rattle.moves.specs.Maps.{Map, IsSearchable}
use Rattle.moves.specs.Components.{IsComponentList}
use Rattle.cell_order.specs.declared.OrderKind.{OrderKind}
use Rattle.cell_order.specs.declared.OrderKind.TheVariants.{Rows}
use Rattle.cell_order.specs.Orders.{ordered}
use Rattle.row_store.specs.Comps.{Comp, IsComp}

-- a component as the database keeps it: its cells in the given order, and their rows
pub record IsKeptAs (order : OrderKind) (component : List Cell) (comp : Comp) : Type 0 where
  pub kind : comp.kind ≡ order
  pub cells : comp.cells ≡ ordered order component
  pub whole : IsComp comp

-- the component with that number
abbrev pub component_at : List (List Cell) → ℕ → List Cell
component_at components label = slice_index_or components label []

abbrev pub no_comp : Comp
no_comp = record { kind = Rows; cells = []; rows = [] }

abbrev pub comp_at : List Comp → ℕ → Comp
comp_at comps label = slice_index_or comps label no_comp

-- the database of a map in that order: its components in the order of their least cells, each as it is kept
pub record IsDatabase (map : Map) (order : OrderKind) (comps : List Comp) : Type 0 where
  pub components : List (List Cell)
  pub listed : IsComponentList map components
  pub whole : length comps ≡ length components
  pub each : (label : ℕ) → label < length comps → IsKeptAs order (component_at components label) (comp_at comps label)

-- a map has only one database in each order
abbrev pub DatabasesAreDetermined : Type 0
DatabasesAreDetermined = (map : Map) (order : OrderKind) (a b : List Comp) → IsDatabase map order a → IsDatabase map order b → a ≡ b

-- the number of runs in all rows of some components
abbrev pub runs_of : List Comp → ℕ
runs_of comps = sum_by (λ comp. sum_by length comp.rows) comps

-- a version as its callers see it: a map, the number of edits that it includes, an order, and the database of the map
pub record Versioned : Type 0 where
  pub map : Map
  pub prefix : ℕ
  pub order : OrderKind
  pub comps : List Comp

-- the version with these four parts
abbrev pub version_of : Map → ℕ → OrderKind → List Comp → Versioned
version_of map prefix order comps = record { map = map; prefix = prefix; order = order; comps = comps }

-- a version: its map may be searched, and its database is that of the map
pub record IsVersion (version : Versioned) : Type 0 where
  pub searchable : IsSearchable version.map
  pub database : IsDatabase version.map version.order version.comps
