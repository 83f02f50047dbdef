-- Words of the contracts inside this crate: how far a file is read, and what is read of it.
use Rattle.std.specs.Prelude.{◌≡◌, ℕ, ◌<◌, ◌≤◌, ◌⊎◌, List, [], ◌++◌, length, map, take, drop, slice_index_or, AllPairs, All}
use Rattle.run_pack.specs.declared.Run.{Run}
use Rattle.moves.specs.declared.Cell.{Cell}
use Rattle.moves.specs.declared.TheConstants.{MAX_PASSABLE}
use Rattle.moves.specs.Maps.{Map, ComesBefore}
use Rattle.moves.specs.Rectangles.{IsOnMap}
use Rattle.moves.specs.StraightPaths.{IsConnected}
use Rattle.cell_order.specs.declared.OrderKind.{OrderKind}
use Rattle.cell_order.specs.Orders.{ordered}
use Rattle.row_store.specs.Comps.{Comp, comp_with}
use Rattle.row_store.specs.Rows.{AreRows}
use Rattle.row_check.specs.declared.RowFault.{RowFault}
use Rattle.row_check.specs.declared.RowFault.TheVariants as row
use Rattle.row_check.specs.Walks.{AreComponentCells, AreShaped}
use Rattle.row_check.specs.Faults.{IsFirstFaultAmong}
use Rattle.versions.specs.Databases.{component_at}
use Rattle.path_file.specs.declared.fault.DbError.{DbError}
use Rattle.path_file.specs.declared.fault.DbError.TheVariants as error
use Rattle.path_file.specs.declared.fault.DbFault.{DbFault}
use Rattle.path_file.specs.declared.fault.DbFault.TheVariants as why
use Rattle.path_file.specs.declared.head.Head.{Head}
use Rattle.path_file.specs.declared.rows.RowPlace.{RowPlace}
use Rattle.path_file.specs.Fields.{Known, known_bytes, map_from, AreFileRows, AreRowsSoFar, AreRunsSoFar, IsHead}
use Rattle.path_file.specs.Faults.{IsFirstDbFault, IsRefusal}
use Rattle.path_file.specs.Files.{head_bytes, ground_bytes, number_bytes, runs_bytes}

-- the bytes of a file, and how many of them are read
pub record Reading : Type 0 where
  pub bytes : List ℕ
  pub at : ℕ

-- what is read
abbrev pub front : Reading → List ℕ
front reading = take reading.at reading.bytes

-- what is left
abbrev pub rest : Reading → List ℕ
rest reading = drop reading.at reading.bytes

-- these bytes are read, and no more
pub record Passes (old new : Reading) (field : List ℕ) : Type 0 where
  pub same : new.bytes ≡ old.bytes
  pub front : front new ≡ front old ++ field

-- fewer bytes than so many are left
pub record IsCutAt (reading : Reading) (size : ℕ) (fault : DbFault) : Type 0 where
  pub short : length (rest reading) < size
  pub is : fault ≡ why.Cut (length reading.bytes)

-- a byte that is no terrain, or a passable cell where there are as many as may be
abbrev pub IsBadByte : ℕ → ℕ → ℕ → DbFault → Type 0
IsBadByte byte place free fault =
    ((2 < byte) × (fault ≡ why.Terrain place byte))
    ⊎ (((byte ≡ 1) ⊎ (byte ≡ 2)) × (MAX_PASSABLE ≤ free) × (fault ≡ why.TooManyCells place))

-- a row comes next
pub record IsRowNext (reading : Reading) (place : RowPlace) (known : Known) : Type 0 where
  pub front : front reading ≡ known_bytes known
  pub reached : AreRowsSoFar known place.cells
  pub comp : place.comp ≡ length known.comps
  pub source : place.source ≡ length known.rows

-- a fault of the row that comes next
abbrev pub IsRowFault : Reading → RowPlace → DbFault → Type 0
IsRowFault reading place fault = (known : Known) → IsRowNext reading place known → IsFirstDbFault reading.bytes fault

-- why that row cannot be read
abbrev pub IsRowRefusal : Reading → RowPlace → DbError → Type 0
IsRowRefusal reading place error = (known : Known) → IsRowNext reading place known → IsRefusal reading.bytes error

-- a run of a row comes next
pub record IsRunNext (reading : Reading) (place : RowPlace) (count : ℕ) (runs : List Run) (known : Known) : Type 0 where
  pub front : front reading ≡ (known_bytes known ++ number_bytes count) ++ runs_bytes runs
  pub reached : AreRowsSoFar known place.cells
  pub so_far : AreRunsSoFar place.cells count runs
  pub comp : place.comp ≡ length known.comps
  pub source : place.source ≡ length known.rows

-- a fault of the run that comes next
abbrev pub IsRunFault : Reading → RowPlace → ℕ → List Run → DbFault → Type 0
IsRunFault reading place count runs fault =
    (known : Known) → IsRunNext reading place count runs known → IsFirstDbFault reading.bytes fault

-- the rows of a component come next
pub record AreRowsNext (reading : Reading) (comp cells : ℕ) (known : Known) : Type 0 where
  pub front : front reading ≡ known_bytes known
  pub reached : AreRowsSoFar known cells
  pub comp_is : comp ≡ length known.comps
  pub none : known.rows ≡ []

-- why they cannot be read
abbrev pub IsRowsRefusal : Reading → ℕ → ℕ → DbError → Type 0
IsRowsRefusal reading comp cells error = (known : Known) → AreRowsNext reading comp cells known → IsRefusal reading.bytes error

-- the cells of a component, row by row
pub record CanBeOrdered (cells : List Cell) : Type 0 where
  pub some : 0 < length cells
  pub few : length cells ≤ MAX_PASSABLE
  pub in_order : AllPairs ComesBefore cells
  pub limits : All IsOnMap cells
  pub connected : IsConnected cells

-- a component that is read: its cells in their order, and a row for each of them
pub record Parted : Type 0 where
  pub cells : List Cell
  pub rows : List (List Run)

abbrev pub no_part : Parted
no_part = record { cells = []; rows = [] }

-- the component of these
abbrev pub comp_of : OrderKind → Parted → Comp
comp_of order part = comp_with order part.cells part.rows

-- a component whose rows can be checked
pub record IsReady (part : Parted) : Type 0 where
  pub cells : AreComponentCells part.cells
  pub rows : AreShaped part.cells part.rows

-- each component with its cells in the order
pub record AreParts (order : OrderKind) (components : List (List Cell)) (parts : List Parted) : Type 0 where
  pub long : length parts ≡ length components
  pub cells : (label : ℕ) → label < length parts → (slice_index_or parts label no_part).cells ≡ ordered order (component_at components label)
  pub rows : (label : ℕ) → label < length parts
      → AreFileRows (length (component_at components label)) (slice_index_or parts label no_part).rows

-- why the components of a map cannot be read
abbrev pub ArePartsRefused : Reading → Map → DbError → Type 0
ArePartsRefused reading map error =
    (head : Head) → IsHead head → map ≡ map_from head map.terrain → front reading ≡ head_bytes head ++ ground_bytes map.terrain
    → IsRefusal reading.bytes error

-- a fault of the rows of a component, as the file's
abbrev pub db_fault : ℕ → RowFault → DbFault
db_fault comp (row.Walk target source) = why.Walk comp target source
db_fault comp (row.Worse target source) = why.Worse comp target source
db_fault comp (row.Loose target source) = why.Loose comp target source

-- the rows of a component have this first fault
pub record IsFaultOfPart (comp : ℕ) (part : Parted) (fault : DbFault) : Type 0 where
  pub of_rows : RowFault
  pub is : fault ≡ db_fault comp of_rows
  pub first : IsFirstFaultAmong part.cells part.rows of_rows

-- why the component cannot be made of the part
abbrev pub IsRefusalOfPart : ℕ → Parted → DbError → Type 0
IsRefusalOfPart comp part (error.Fault fault) = IsFaultOfPart comp part fault
IsRefusalOfPart comp part error.NoMemory = Unit {0}

-- the rows of a component have this first fault, and those of the components before have none
pub record IsFaultOfParts (parts : List Parted) (fault : DbFault) : Type 0 where
  pub comp : ℕ
  pub inside : comp < length parts
  pub here : IsFaultOfPart comp (slice_index_or parts comp no_part) fault
  pub before : (label : ℕ) → label < comp → AreRows (slice_index_or parts label no_part).cells (slice_index_or parts label no_part).rows

-- why components cannot be made of the parts
abbrev pub IsRefusalOfParts : List Parted → DbError → Type 0
IsRefusalOfParts parts (error.Fault fault) = IsFaultOfParts parts fault
IsRefusalOfParts parts error.NoMemory = Unit {0}
