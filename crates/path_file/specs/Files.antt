-- The file of a version, byte by byte: its map, the number of its edits, its order, and the rows of its database as words.
-- In each number the highest byte comes first. (Botea 2011; Strasser, Harabor and Botea 2014: the rows that are kept)
use Rattle.std.specs.Prelude.{◌≡◌, ℕ, ◌*◌, ◌^◌, ◌<◌, List, [], ◌∷◌, ◌++◌, length, map, codes}
use Rattle.std.specs.List.{flat_map}
use Rattle.std.specs.Int.{w32, to_be_bytes}
use Rattle.run_pack.specs.declared.Run.{Run}
use Rattle.run_pack.specs.Runs.{word_of}
use Rattle.moves.specs.declared.Terrain.{Terrain}
use Rattle.moves.specs.declared.Terrain.TheVariants.{Blocked, Land, Water}
use Rattle.moves.specs.Maps.{IsWithinLimits, map_of}
use Rattle.cell_order.specs.declared.OrderKind.TheVariants.{Rows}
use Rattle.cell_order.specs.Orders.{kind_of}
use Rattle.versions.specs.Databases.{Versioned, IsVersion, version_of}
use Rattle.versions.specs.OneRow.{line}
use Rattle.path_file.specs.declared.head.Head.{Head}

-- what each file begins with
abbrev pub mark : List ℕ
mark = codes "PATHDB01"

-- a number, in four bytes
unfoldable pub number_bytes : ℕ → List ℕ
number_bytes n = to_be_bytes w32 n

-- a terrain, in one byte
abbrev pub terrain_byte : Terrain → ℕ
terrain_byte Blocked = 0
terrain_byte Land = 1
terrain_byte Water = 2

-- the terrain of cells, row by row
abbrev pub ground_bytes : List Terrain → List ℕ
ground_bytes cells = map terrain_byte cells

-- the word of a run
abbrev pub run_bytes : Run → List ℕ
run_bytes run = number_bytes (word_of run)

-- the words of some runs
abbrev pub runs_bytes : List Run → List ℕ
runs_bytes runs = flat_map run_bytes runs

-- a row: how many runs it has, and their words
abbrev pub row_bytes : List Run → List ℕ
row_bytes row = number_bytes (length row) ++ runs_bytes row

-- the rows of a component, one for each of its cells
abbrev pub rows_bytes : List (List Run) → List ℕ
rows_bytes rows = flat_map row_bytes rows

-- the rows of components
abbrev pub comps_bytes : List (List (List Run)) → List ℕ
comps_bytes comps = flat_map rows_bytes comps

-- the mark and a width
abbrev pub width_bytes : ℕ → List ℕ
width_bytes width = mark ++ number_bytes width

-- the mark and both sides
abbrev pub sides_bytes : ℕ → ℕ → List ℕ
sides_bytes width height = width_bytes width ++ number_bytes height

-- the mark, both sides and the number of edits
abbrev pub prefix_bytes : ℕ → ℕ → ℕ → List ℕ
prefix_bytes width height prefix = sides_bytes width height ++ number_bytes prefix

-- all that stands before the terrain
abbrev pub head_bytes : Head → List ℕ
head_bytes head = prefix_bytes head.width head.height head.prefix ++ kind_of head.order ∷ []

-- what the file of a version says before the terrain
abbrev pub head_of : Versioned → Head
head_of version = record {
  width = version.map.width;
  height = version.map.height;
  prefix = version.prefix;
  order = version.order;
}

-- the rows of the components of a version
abbrev pub rows_of : Versioned → List (List (List Run))
rows_of version = map (λ comp. comp.rows) version.comps

-- the file of a version
abbrev pub file_of : Versioned → List ℕ
file_of version = (head_bytes (head_of version) ++ ground_bytes version.map.terrain) ++ comps_bytes (rows_of version)

-- a version as a program holds it: its map lies inside the limits, and the number of edits has 32 bits
pub record HasFile (version : Versioned) : Type 0 where
  pub is_version : IsVersion version
  pub limits : IsWithinLimits version.map.width version.map.height
  pub whole : length version.map.terrain ≡ version.map.width * version.map.height
  pub edits : version.prefix < 2 ^ 32

-- the version of the map `...` before any edit
abbrev pub three_cells : Versioned
three_cells = version_of (map_of 3 1 (Land ∷ Land ∷ Land ∷ [])) 0 Rows (line ∷ [])

-- the 52 bytes of its file
abbrev pub FileOfThreeCells : Type 0
FileOfThreeCells =
    file_of three_cells
    ≡ 80 ∷ 65 ∷ 84 ∷ 72 ∷ 68 ∷ 66 ∷ 48 ∷ 49 ∷ 0 ∷ 0 ∷ 0 ∷ 3 ∷ 0 ∷ 0 ∷ 0 ∷ 1 ∷ 0 ∷ 0 ∷ 0 ∷ 0 ∷ 0 ∷ 1 ∷ 1 ∷ 1
    ∷ 0 ∷ 0 ∷ 0 ∷ 1 ∷ 0 ∷ 0 ∷ 0 ∷ 2 ∷ 0 ∷ 0 ∷ 0 ∷ 2 ∷ 0 ∷ 0 ∷ 0 ∷ 6 ∷ 0 ∷ 0 ∷ 0 ∷ 18
    ∷ 0 ∷ 0 ∷ 0 ∷ 1 ∷ 0 ∷ 0 ∷ 0 ∷ 6 ∷ []
