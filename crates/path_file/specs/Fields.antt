-- The fields of a file, and what stands before each where all of it is as it has to be.
use Rattle.std.specs.Prelude.{◌≡◌, ℕ, ◌*◌, ◌^◌, ◌<◌, ◌≤◌, List, [], ◌++◌, length, slice_index_or, count_by, All}
use Rattle.run_pack.specs.declared.Run.{Run}
use Rattle.run_pack.specs.Runs.{IsRow}
use Rattle.moves.specs.declared.Cell.{Cell}
use Rattle.moves.specs.declared.Terrain.{Terrain}
use Rattle.moves.specs.declared.TheConstants.{MAX_SIDE, MAX_PASSABLE}
use Rattle.moves.specs.Maps.{Map, IsWithinLimits, is_passable, map_of}
use Rattle.moves.specs.Components.{IsComponentList}
use Rattle.versions.specs.Databases.{component_at}
use Rattle.path_file.specs.declared.head.Head.{Head}
use Rattle.path_file.specs.Files.{mark, width_bytes, sides_bytes, prefix_bytes, head_bytes, ground_bytes, comps_bytes, rows_bytes, runs_bytes, number_bytes}

-- a side that a map may have
pub record IsSide (length_of : ℕ) : Type 0 where
  pub some : 0 < length_of
  pub limit : length_of ≤ MAX_SIDE

-- how many of the cells are passable
abbrev pub free_in : List Terrain → ℕ
free_in cells = count_by is_passable cells

-- what is read of a file before a row: the head, the terrain, the rows of the components before, and the rows before of
-- the component that is read
pub record Known : Type 0 where
  pub head : Head
  pub ground : List Terrain
  pub comps : List (List (List Run))
  pub rows : List (List Run)

-- the same with other rows of the component that is read
abbrev pub with_rows : Known → List (List Run) → Known
with_rows known rows = record { head = known.head; ground = known.ground; comps = known.comps; rows = rows }

-- the bytes of what is read
abbrev pub known_bytes : Known → List ℕ
known_bytes known =
    ((head_bytes known.head ++ ground_bytes known.ground) ++ comps_bytes known.comps) ++ rows_bytes known.rows

-- the map of a head and a terrain
abbrev pub map_from : Head → List Terrain → Map
map_from head ground = map_of head.width head.height ground

-- a row over so many places, with numbers of moves
pub record IsFileRow (places : ℕ) (row : List Run) : Type 0 where
  pub is_row : IsRow row places
  pub moves : All (λ run. run.mv < 8) row

-- the rows of a component of so many cells, which need not be right: one for each cell
pub record AreFileRows (cells : ℕ) (rows : List (List Run)) : Type 0 where
  pub whole : length rows ≡ cells
  pub each : All (IsFileRow cells) rows

-- the rows of the component with that number
abbrev pub rows_at : List (List (List Run)) → ℕ → List (List Run)
rows_at comps label = slice_index_or comps label []

-- sides and a number of edits that a file may have
pub record IsHead (head : Head) : Type 0 where
  pub limits : IsWithinLimits head.width head.height
  pub prefix : head.prefix < 2 ^ 32

-- the terrain of some of the cells, of which no more are passable than a map may have
pub record IsGroundSoFar (head : Head) (cells : List Terrain) : Type 0 where
  pub sides : IsHead head
  pub inside : length cells < head.width * head.height
  pub few : free_in cells ≤ MAX_PASSABLE

-- a map, whose components are these, and the rows of the first of them
pub record AreComps (head : Head) (ground : List Terrain) (comps : List (List (List Run))) (components : List (List Cell)) : Type 0 where
  pub sides : IsHead head
  pub whole : length ground ≡ head.width * head.height
  pub few : free_in ground ≤ MAX_PASSABLE
  pub listed : IsComponentList (map_from head ground) components
  pub within : length comps ≤ length components
  pub each : (label : ℕ) → label < length comps → AreFileRows (length (component_at components label)) (rows_at comps label)

-- some rows of the next component, which has so many cells
pub record AreRowsSoFar (known : Known) (cells : ℕ) : Type 0 where
  pub components : List (List Cell)
  pub before : AreComps known.head known.ground known.comps components
  pub inside : length known.comps < length components
  pub size : cells ≡ length (component_at components (length known.comps))
  pub each : All (IsFileRow cells) known.rows
  pub fewer : length known.rows < cells

-- some runs of a row that is to have so many
pub record AreRunsSoFar (cells count : ℕ) (runs : List Run) : Type 0 where
  pub some : 0 < count
  pub limit : count ≤ cells
  pub fewer : length runs < count
  pub row : 0 < length runs → IsFileRow cells runs

-- the rows of all components
pub record AreAllComps (known : Known) : Type 0 where
  pub components : List (List Cell)
  pub before : AreComps known.head known.ground known.comps components
  pub all : length known.comps ≡ length components
  pub none : known.rows ≡ []

-- a field of a file, by what stands before it
pub data Field : Type 0 where
  -- the mark
  at_mark : Field
  -- the width
  at_width : Field
  -- the height, behind a width
  at_height : ℕ → Field
  -- the number of edits, behind a width and a height
  at_prefix : ℕ → ℕ → Field
  -- the order, behind the sides and the number of edits
  at_order : ℕ → ℕ → ℕ → Field
  -- the terrain of a cell, behind that of some cells
  at_ground : Head → List Terrain → Field
  -- the number of runs of a row, in a component of so many cells
  at_count : Known → ℕ → Field
  -- a run of a row of so many runs, behind some of them, in a component of so many cells
  at_word : Known → ℕ → ℕ → List Run → Field
  -- the end of the file
  at_end : Known → Field

-- the bytes before a field
abbrev pub front_of : Field → List ℕ
front_of at_mark = []
front_of at_width = mark
front_of (at_height width) = width_bytes width
front_of (at_prefix width height) = sides_bytes width height
front_of (at_order width height prefix) = prefix_bytes width height prefix
front_of (at_ground head cells) = head_bytes head ++ ground_bytes cells
front_of (at_count known cells) = known_bytes known
front_of (at_word known cells count runs) = (known_bytes known ++ number_bytes count) ++ runs_bytes runs
front_of (at_end known) = known_bytes known

-- how many bytes a field has
abbrev pub size_of : Field → ℕ
size_of at_mark = 8
size_of at_width = 4
size_of (at_height width) = 4
size_of (at_prefix width height) = 4
size_of (at_order width height prefix) = 1
size_of (at_ground head cells) = 1
size_of (at_count known cells) = 4
size_of (at_word known cells count runs) = 4
size_of (at_end known) = 0

-- all that stands before a field is as it has to be
abbrev pub IsReached : Field → Type 0
IsReached at_mark = Unit {0}
IsReached at_width = Unit {0}
IsReached (at_height width) = IsSide width
IsReached (at_prefix width height) = IsWithinLimits width height
IsReached (at_order width height prefix) = IsWithinLimits width height × (prefix < 2 ^ 32)
IsReached (at_ground head cells) = IsGroundSoFar head cells
IsReached (at_count known cells) = AreRowsSoFar known cells
IsReached (at_word known cells count runs) = AreRowsSoFar known cells × AreRunsSoFar cells count runs
IsReached (at_end known) = AreAllComps known

-- all before this field is as it has to be, and so are the bytes from it on
pub record HasField (bytes : List ℕ) (field : Field) (IsSo : List ℕ → Type 0) : Type 0 where
  pub reached : IsReached field
  pub rest : List ℕ
  pub split : bytes ≡ front_of field ++ rest
  pub so : IsSo rest
