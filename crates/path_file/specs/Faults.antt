-- The first fault of a file: a field that is not as it has to be, where all before it is.
use Rattle.std.specs.Prelude.{◌≡◌, ◌≢◌, ℕ, ◌^◌, ◌<◌, ◌≤◌, ◌⊎◌, List, [], ◌∷◌, ◌++◌, length, take}
use Rattle.run_pack.specs.declared.Run.{Run}
use Rattle.run_pack.specs.Runs.{run_of_word}
use Rattle.moves.specs.declared.Terrain.{Terrain}
use Rattle.moves.specs.declared.TheConstants.{MAX_PASSABLE}
use Rattle.moves.specs.Maps.{IsWithinLimits}
use Rattle.cell_order.specs.Orders.{ordered}
use Rattle.row_store.specs.Rows.{AreRows}
use Rattle.row_check.specs.declared.RowFault.{RowFault}
use Rattle.row_check.specs.declared.RowFault.TheVariants as row
use Rattle.row_check.specs.Faults.{IsFirstFaultAmong}
use Rattle.versions.specs.Databases.{component_at}
use Rattle.path_file.specs.declared.head.Head.{Head}
use Rattle.path_file.specs.declared.fault.DbError.{DbError}
use Rattle.path_file.specs.declared.fault.DbError.TheVariants as error
use Rattle.path_file.specs.declared.fault.DbFault.{DbFault}
use Rattle.path_file.specs.declared.fault.DbFault.TheVariants as why
use Rattle.path_file.specs.Files.{mark, number_bytes}
use Rattle.path_file.specs.Fields.{Field, at_mark, at_width, at_height, at_order, at_ground, at_count, at_word, at_end, HasField, Known, known_bytes, IsSide, IsFileRow, free_in, size_of, rows_at, AreAllComps}

-- the bytes begin with a number of which this is so
pub record HasNumber (IsSo : ℕ → Type 0) (bytes : List ℕ) : Type 0 where
  pub number : ℕ
  pub fits : number < 2 ^ 32
  pub after : List ℕ
  pub is : bytes ≡ number_bytes number ++ after
  pub so : IsSo number

-- the bytes begin with this byte
pub record HasByte (byte : ℕ) (bytes : List ℕ) : Type 0 where
  pub after : List ℕ
  pub is : bytes ≡ byte ∷ after

-- the first eight bytes are not the mark
pub record IsNoMark (bytes : List ℕ) : Type 0 where
  pub whole : 8 ≤ length bytes
  pub other : take 8 bytes ≢ mark

-- the width is no side of a map
abbrev pub IsBadWidth : List ℕ → Type 0
IsBadWidth bytes = HasField bytes at_width (HasNumber (λ width. IsSide width → ⊥))

-- the height is no side of a map, or with the width it makes too many cells
pub record IsBadHeight (bytes : List ℕ) : Type 0 where
  pub width : ℕ
  pub field : HasField bytes (at_height width) (HasNumber (λ height. IsWithinLimits width height → ⊥))

-- the byte of the order is that of none
pub record IsBadOrder (bytes : List ℕ) (byte : ℕ) : Type 0 where
  pub width : ℕ
  pub height : ℕ
  pub prefix : ℕ
  pub field : HasField bytes (at_order width height prefix) (HasByte byte)
  pub none : 1 < byte

-- the byte of the cell at that place is that of no terrain
pub record IsBadTerrain (bytes : List ℕ) (place byte : ℕ) : Type 0 where
  pub head : Head
  pub cells : List Terrain
  pub place_is : place ≡ length cells
  pub field : HasField bytes (at_ground head cells) (HasByte byte)
  pub none : 2 < byte

-- the cell at that place is passable, and so are the most cells before it that a map may have
pub record IsOneCellTooMany (bytes : List ℕ) (place : ℕ) : Type 0 where
  pub head : Head
  pub cells : List Terrain
  pub place_is : place ≡ length cells
  pub byte : ℕ
  pub field : HasField bytes (at_ground head cells) (HasByte byte)
  pub passable : (byte ≡ 1) ⊎ (byte ≡ 2)
  pub full : free_in cells ≡ MAX_PASSABLE

-- the bytes end inside a field
pub record IsCut (bytes : List ℕ) : Type 0 where
  pub field : Field
  pub end : HasField bytes field (λ rest. length rest < size_of field)

-- the number of the runs of a row is 0 or above that of the cells
pub record IsBadCount (bytes : List ℕ) (comp source : ℕ) : Type 0 where
  pub known : Known
  pub cells : ℕ
  pub comp_is : comp ≡ length known.comps
  pub source_is : source ≡ length known.rows
  pub field : HasField bytes (at_count known cells) (HasNumber (λ count. (count ≡ 0) ⊎ (cells < count)))

-- a run of a row does not go on behind those before it: the first one does not start at 0, or a later one does not start
-- after the one before it, or a run starts where there is no cell
pub record IsBadRun (bytes : List ℕ) (comp source : ℕ) : Type 0 where
  pub known : Known
  pub cells : ℕ
  pub count : ℕ
  pub runs : List Run
  pub comp_is : comp ≡ length known.comps
  pub source_is : source ≡ length known.rows
  pub field : HasField bytes (at_word known cells count runs)
      (HasNumber (λ word. IsFileRow cells (runs ++ run_of_word word ∷ []) → ⊥))

-- bytes follow the last row, from that place on
pub record IsExtra (bytes : List ℕ) (from : ℕ) : Type 0 where
  pub known : Known
  pub from_is : from ≡ length (known_bytes known)
  pub field : HasField bytes (at_end known) (λ rest. 0 < length rest)

-- all fields are read, the rows of the components before are right, and this is the first fault of the component's rows
pub record IsBadRows (bytes : List ℕ) (comp : ℕ) (fault : RowFault) : Type 0 where
  pub known : Known
  pub all : AreAllComps known
  pub whole : bytes ≡ known_bytes known
  pub inside : comp < length known.comps
  pub before : (label : ℕ) → label < comp
      → AreRows (ordered known.head.order (component_at all.components label)) (rows_at known.comps label)
  pub first : IsFirstFaultAmong (ordered known.head.order (component_at all.components comp)) (rows_at known.comps comp) fault

-- the first fault of a file: a field that is not as it has to be, where all before it is; or where all fields are, a row
abbrev pub IsFirstDbFault : List ℕ → DbFault → Type 0
IsFirstDbFault bytes why.Magic = HasField bytes at_mark IsNoMark
IsFirstDbFault bytes why.Size = IsBadWidth bytes ⊎ IsBadHeight bytes
IsFirstDbFault bytes (why.Kind byte) = IsBadOrder bytes byte
IsFirstDbFault bytes (why.Terrain place byte) = IsBadTerrain bytes place byte
IsFirstDbFault bytes (why.TooManyCells place) = IsOneCellTooMany bytes place
IsFirstDbFault bytes (why.Cut have) = (have ≡ length bytes) × IsCut bytes
IsFirstDbFault bytes (why.Runs comp source) = IsBadCount bytes comp source ⊎ IsBadRun bytes comp source
IsFirstDbFault bytes (why.Extra from) = IsExtra bytes from
IsFirstDbFault bytes (why.Walk comp target source) = IsBadRows bytes comp (row.Walk target source)
IsFirstDbFault bytes (why.Worse comp target source) = IsBadRows bytes comp (row.Worse target source)
IsFirstDbFault bytes (why.Loose comp target source) = IsBadRows bytes comp (row.Loose target source)

-- what a refusal says: the first fault, or that memory ran out
abbrev pub IsRefusal : List ℕ → DbError → Type 0
IsRefusal bytes (error.Fault fault) = IsFirstDbFault bytes fault
IsRefusal bytes error.NoMemory = Unit {0}
