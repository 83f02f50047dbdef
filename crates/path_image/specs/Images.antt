-- The image of a version: one list of words of 32 bits, with all that a query reads. No word says where the image lies.
--
-- An example: the version of the map `...` before all edits, in the order row by row. It has one component, whose cells have the
-- rows (0,E) and (0,W),(2,E) and (0,W). Its image has 26 words:
--
--     1752457584 1734438249 1 26     `path` and `imag` as bytes, the form, and how many words there are
--     3 1 0 0 3 1                    columns, rows, edits before it, number of the order, passable cells, components
--     0 1 2                          each cell's component times 65,536 and its place there, or 4,294,967,295 for a blocked one
--     14                             where the table of the component begins
--     3                              the table: how many cells,
--     0 1 2                          the cells, each its row times 65,536 and its column,
--     0 1 3 4                        behind how many runs the row of each begins, and how many runs there are,
--     2 6 18 6                       and the runs, each its start times 8 and the number of its move
--
-- (Botea 2011; Strasser, Harabor and Botea 2014)
use Rattle.std.specs.Prelude.{◌≡◌, ℕ, ◌+◌, ◌*◌, List, [], ◌∷◌, ◌++◌, length, map, take, if◌then◌else◌, nat_lt}
use Rattle.std.specs.List.{flat_map, range_with_len, position_or_len}
use Rattle.moves.specs.declared.Cell.{Cell}
use Rattle.moves.specs.Maps.{cell_at, is_cell, passable_count}
use Rattle.cell_order.specs.Orders.{kind_of}
use Rattle.run_pack.specs.declared.Run.{Run}
use Rattle.run_pack.specs.Runs.{word_of}
use Rattle.row_store.specs.Comps.{Comp}
use Rattle.versions.specs.Databases.{Versioned, IsVersion}
use Rattle.path_image.specs.declared.TheConstants.{MAGIC_PATH, MAGIC_IMAGE, FORM, HEAD, HALF, BLOCKED}

-- the first place of a cell in a component, and the number of its cells where it is none of them
abbrev pub place_among : Comp → Cell → ℕ
place_among comp cell = position_or_len (is_cell cell) comp.cells

-- the word of a cell: the number of the component that has it, in the high half, and its place there in the low half. The
-- components are numbered from `label` on.
unfoldable pub home_word : ℕ → List Comp → Cell → ℕ
home_word label [] cell = BLOCKED
home_word label (comp ∷ comps) cell =
    if nat_lt (place_among comp cell) (length comp.cells) then label * HALF + place_among comp cell else home_word (label + 1) comps cell

-- the words of all cells, row by row
abbrev pub homes_of : Versioned → List ℕ
homes_of version =
    map (λ place. home_word 0 version.comps (cell_at version.map.width place))
    (range_with_len 0 (version.map.width * version.map.height))

-- a cell of a component as a word
abbrev pub cell_word : Cell → ℕ
cell_word cell = cell.y * HALF + cell.x

-- the runs of a row as words
abbrev pub row_words : List Run → List ℕ
row_words row = map word_of row

-- how many runs the rows before that one have
abbrev pub row_start : List (List Run) → ℕ → ℕ
row_start rows place = length (flat_map row_words (take place rows))

-- the table of a component: how many cells, the cells in their order, where each row starts and the last ends, and the runs
unfoldable pub table_of : Comp → List ℕ
table_of comp =
    length comp.cells
    ∷ (map cell_word comp.cells ++ (map (row_start comp.rows) (range_with_len 0 (length comp.cells + 1)) ++ flat_map row_words comp.rows))

-- how many words stand before the tables
abbrev pub tables_at : Versioned → ℕ
tables_at version = HEAD + version.map.width * version.map.height + length version.comps

-- where the table of a component begins: behind those of the components before it
abbrev pub table_start : Versioned → ℕ → ℕ
table_start version label = tables_at version + length (flat_map table_of (take label version.comps))

-- where each table begins
abbrev pub starts_of : Versioned → List ℕ
starts_of version = map (table_start version) (range_with_len 0 (length version.comps))

-- how many words the image has
abbrev pub image_size : Versioned → ℕ
image_size version = tables_at version + length (flat_map table_of version.comps)

-- the first words of the image
abbrev pub head_of : Versioned → List ℕ
head_of version =
    MAGIC_PATH ∷ MAGIC_IMAGE ∷ FORM ∷ image_size version ∷ version.map.width ∷ version.map.height ∷ version.prefix
    ∷ kind_of version.order ∷ passable_count version.map ∷ length version.comps ∷ []

-- the image
unfoldable pub image_of : Versioned → List ℕ
image_of version = head_of version ++ (homes_of version ++ (starts_of version ++ flat_map table_of version.comps))

-- the words are the image of the version
pub record IsImageOf (words : List ℕ) (version : Versioned) : Type 0 where
  pub of : IsVersion version
  pub is : words ≡ image_of version
