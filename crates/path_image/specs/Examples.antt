-- The example of an image, word by word.
use Rattle.std.specs.Prelude.{ℕ, true, List, [], ◌∷◌}
use Rattle.moves.specs.Maps.{map_with}
use Rattle.cell_order.specs.declared.OrderKind.TheVariants.{Rows}
use Rattle.versions.specs.OneRow.{line}
use Rattle.versions.specs.Databases.{Versioned, version_of}

-- the version of the map `...` before all edits, in the order row by row
abbrev pub three_cells : Versioned
three_cells = version_of (map_with 3 1 (true ∷ true ∷ true ∷ [])) 0 Rows (line ∷ [])

-- its image
abbrev pub three_cells_words : List ℕ
three_cells_words =
    1752457584 ∷ 1734438249 ∷ 1 ∷ 26 ∷ 3 ∷ 1 ∷ 0 ∷ 0 ∷ 3 ∷ 1 ∷ 0 ∷ 1 ∷ 2 ∷ 14 ∷ 3 ∷ 0 ∷ 1 ∷ 2 ∷ 0 ∷ 1 ∷ 3 ∷ 4 ∷ 2 ∷ 6 ∷ 18 ∷ 6 ∷ []
