-- What is read in the words of an image, and that each number in it leads inside.
use Rattle.std.specs.Prelude.{◌≡◌, ℕ, ◌+◌, ◌*◌, ◌/◌, ◌%◌, ◌<◌, ◌≤◌, ◌⊎◌, List, length, map, slice_index, slice_range}
use Rattle.moves.specs.declared.Cell.{Cell}
use Rattle.moves.specs.declared.TheConstants.{MAX_PASSABLE}
use Rattle.moves.specs.Maps.{IsWithinLimits, place_of}
use Rattle.run_pack.specs.Runs.{Rises, run_of_word}
use Rattle.path_image.specs.declared.TheConstants.{MAGIC_PATH, MAGIC_IMAGE, FORM, HEAD, HALF, BLOCKED}

-- the numbers of columns, of rows and of components
abbrev pub width_in : List ℕ → ℕ
width_in words = slice_index words 4

abbrev pub height_in : List ℕ → ℕ
height_in words = slice_index words 5

abbrev pub count_in : List ℕ → ℕ
count_in words = slice_index words 9

-- the word of a cell
abbrev pub home_in : List ℕ → Cell → ℕ
home_in words cell = slice_index words (HEAD + place_of (width_in words) cell)

-- where the table of a component begins
abbrev pub start_in : List ℕ → ℕ → ℕ
start_in words label = slice_index words (HEAD + width_in words * height_in words + label)

-- how many cells the component has whose table begins there
abbrev pub size_at : List ℕ → ℕ → ℕ
size_at words start = slice_index words start

-- behind how many runs the row of a place begins
abbrev pub row_start_at : List ℕ → ℕ → ℕ → ℕ
row_start_at words start place = slice_index words (start + 1 + size_at words start + place)

-- where the runs of the table begin
abbrev pub runs_at : List ℕ → ℕ → ℕ
runs_at words start = start + 2 * size_at words start + 2

-- the runs of the row of a place, as words
abbrev pub row_at_place : List ℕ → ℕ → ℕ → List ℕ
row_at_place words start place =
    slice_range words (runs_at words start + row_start_at words start place) (runs_at words start + row_start_at words start (place + 1))

-- the cell lies inside the sides
pub record IsCellIn (words : List ℕ) (cell : Cell) : Type 0 where
  pub column : cell.x < width_in words
  pub row : cell.y < height_in words

-- the cell of a word
abbrev pub cell_of_word : ℕ → Cell
cell_of_word word = record { x = word % HALF; y = word / HALF }

-- the place is one of that component
pub record StandsIn (words : List ℕ) (label place : ℕ) : Type 0 where
  pub component : label < count_in words
  pub place_in : place < size_at words (start_in words label)

-- the row of that place lies in the words, and is one: its first run starts at 0, and the starts rise
pub record IsRowIn (words : List ℕ) (start place : ℕ) : Type 0 where
  pub order : row_start_at words start place ≤ row_start_at words start (place + 1)
  pub there : runs_at words start + row_start_at words start (place + 1) ≤ length words
  pub rises : Rises (map run_of_word (row_at_place words start place))

-- so many cells of a table lie inside the sides
abbrev pub HasCells : List ℕ → ℕ → ℕ → Type 0
HasCells words start count = (place : ℕ) → place < count → IsCellIn words (cell_of_word (slice_index words (start + 1 + place)))

-- so many rows of a table are rows
abbrev pub HasRows : List ℕ → ℕ → ℕ → Type 0
HasRows words start count = (place : ℕ) → place < count → IsRowIn words start place

-- a table begins there that lies in the words, its cells lie inside the sides, and its rows are rows
pub record IsTable (words : List ℕ) (start : ℕ) : Type 0 where
  pub begins : start < length words
  pub few : size_at words start ≤ MAX_PASSABLE
  pub there : runs_at words start ≤ length words
  pub cells : HasCells words start (size_at words start)
  pub rows : HasRows words start (size_at words start)

-- the word of a cell says that it is blocked, or leads to a place of a component
abbrev pub LeadsHome : List ℕ → ℕ → Type 0
LeadsHome words word = (word ≡ BLOCKED) ⊎ StandsIn words (word / HALF) (word % HALF)

-- the words begin as those of an image do
pub record HasMagic (words : List ℕ) : Type 0 where
  pub long : HEAD ≤ length words
  pub path : slice_index words 0 ≡ MAGIC_PATH
  pub image : slice_index words 1 ≡ MAGIC_IMAGE

-- there are words for the cells of the map and for where the tables begin
abbrev pub HasLists : List ℕ → Type 0
HasLists words = HEAD + width_in words * height_in words + count_in words ≤ length words

-- the first words are those of an image, and there are enough for its lists
pub record IsHead (words : List ℕ) : Type 0 where
  pub magic : HasMagic words
  pub form : slice_index words 2 ≡ FORM
  pub whole : slice_index words 3 ≡ length words
  pub sides : IsWithinLimits (width_in words) (height_in words)
  pub lists : HasLists words

-- so many components have tables
abbrev pub HasTables : List ℕ → ℕ → Type 0
HasTables words count = (label : ℕ) → label < count → IsTable words (start_in words label)

-- the words of so many cells lead to places of components
abbrev pub HasHomes : List ℕ → ℕ → Type 0
HasHomes words count = (place : ℕ) → place < count → LeadsHome words (slice_index words (HEAD + place))

-- each number in the words leads inside
pub record LeadsInside (words : List ℕ) : Type 0 where
  pub head : IsHead words
  pub tables : HasTables words (count_in words)
  pub homes : HasHomes words (width_in words * height_in words)
