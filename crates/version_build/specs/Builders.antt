-- A version that is built row by row.
use Rattle.std.specs.Prelude.{◌≡◌, ℕ, ◌-◌, ◌<◌, ◌≤◌, List, [], ◌∷◌, ◌++◌, length, slice_index_or, sum_by, Option, None, Some}
use Rattle.run_pack.specs.declared.Run.{Run}
use Rattle.moves.specs.declared.Cell.{Cell}
use Rattle.moves.specs.Maps.{Map, IsSearchable}
use Rattle.moves.specs.Components.{IsComponentList}
use Rattle.moves.specs.FirstSetLists.{cell_of}
use Rattle.cell_order.specs.declared.OrderKind.{OrderKind}
use Rattle.cell_order.specs.Orders.{ordered}
use Rattle.row_store.specs.Rows.{row_at, IsRowFrom}
use Rattle.row_store.specs.Comps.{Comp}
use Rattle.versions.specs.Databases.{IsKeptAs, component_at}
use Rattle.version_build.specs.Plans.{Planned, CanAllBeBuilt, cells_missing}

-- a builder as its callers see it: its plan, and how many rows are not yet built
pub record Building : Type 0 where
  pub plan : Planned
  pub left : ℕ

-- a component of the version: what is kept of the former version, or its cells in their order and the rows of the first
-- of these
pub record Parted : Type 0 where
  pub kept : Option Comp
  pub cells : List Cell
  pub rows : List (List Run)

abbrev pub no_part : Parted
no_part = record { kept = None; cells = []; rows = [] }

abbrev pub part_at : List Parted → ℕ → Parted
part_at parts label = slice_index_or parts label no_part

-- how many rows of the component are not yet built
abbrev pub rows_left : Parted → ℕ
rows_left part = length part.cells - length part.rows

-- the component before any of its rows is built
abbrev pub part_from : OrderKind → List Cell → Option Comp → Parted
part_from order component None = record { kept = None; cells = ordered order component; rows = [] }
part_from order component (Some comp) = record { kept = Some comp; cells = []; rows = [] }

-- the component with its rows: the one that is kept, or that of the cells and the rows
abbrev pub comp_or : OrderKind → List Cell → List (List Run) → Option Comp → Comp
comp_or order cells rows None = record { kind = order; cells = cells; rows = rows }
comp_or order cells rows (Some comp) = comp

abbrev pub comp_of : OrderKind → Parted → Comp
comp_of order part = comp_or order part.cells part.rows part.kept

-- of each component with such a number, what is kept of it or its cells in their order, and no row
pub record AreBegun (order : OrderKind) (components : List (List Cell)) (comps : List (Option Comp)) (parts : List Parted) : Type 0 where
  pub long : length parts ≡ length comps
  pub each : (label : ℕ) → label < length parts
      → part_at parts label ≡ part_from order (component_at components label) (slice_index_or comps label None)
  pub left : sum_by rows_left parts ≡ cells_missing components comps

-- the rows of the first of the cells
abbrev pub AreFirstRows : Map → List Cell → List (List Run) → Type 0
AreFirstRows map cells rows = (place : ℕ) → place < length rows → IsRowFrom map cells (cell_of cells place) (row_at rows place)

-- the component is kept, or it has its cells in their order and the rows of the first of them
abbrev pub IsPartFrom : Map → OrderKind → List Cell → List Cell → List (List Run) → Option Comp → Type 0
IsPartFrom map order component cells rows None = (cells ≡ ordered order component) × (length rows ≤ length cells)
    × AreFirstRows map cells rows
IsPartFrom map order component cells rows (Some comp) = (cells ≡ []) × (rows ≡ []) × IsKeptAs order component comp

abbrev pub IsPart : Map → OrderKind → List Cell → Parted → Type 0
IsPart map order component part = IsPartFrom map order component part.cells part.rows part.kept

-- What a builder knows: a part for each component of the map. Those before a number have all their rows.
pub record IsUnderWay (map : Map) (order : OrderKind) (components : List (List Cell)) (parts : List Parted) (at count : ℕ) : Type 0 where
  pub searchable : IsSearchable map
  pub ready : CanAllBeBuilt components
  pub listed : IsComponentList map components
  pub long : length parts ≡ length components
  pub each : (label : ℕ) → label < length parts → IsPart map order (component_at components label) (part_at parts label)
  pub done : (label : ℕ) → label < at → rows_left (part_at parts label) ≡ 0
  pub left : count ≡ sum_by rows_left parts

-- the row of the next of the cells is the last row, and the others are as before
pub record PushesRow (map : Map) (old new : Parted) : Type 0 where
  pub row : List Run
  pub is : IsRowFrom map old.cells (cell_of old.cells (length old.rows)) row
  pub last : new ≡ record { kept = old.kept; cells = old.cells; rows = old.rows ++ row ∷ [] }
