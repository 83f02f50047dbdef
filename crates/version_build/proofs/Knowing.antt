-- A row that is known before it is built.
use Rattle.std.proofs.Common.{ℕ, ◌<◌, List, length, map}
use Rattle.std.proofs.lemmas.List.Elements.{Contains-get_or}
use Rattle.std.proofs.lemmas.List.Sorted.{IsPermutation-sym}
use Rattle.run_pack.specs.Runs.{run_of_word}
use Rattle.moves.specs.declared.Cell.{Cell}
use Rattle.moves.specs.Maps.{Map}
use Rattle.moves.specs.ComponentLaws.{HasJust}
use Rattle.moves.specs.FirstSetLists.{cell_of}
use Rattle.row_store.specs.Rows.{IsRowFrom}
use Rattle.row_store.proofs.RowLaws.{HasJust-permuted, components_keep_each_row}
use Rattle.build_pool.specs.Places.{AreComponent}
use Rattle.build_pool.specs.Pieces.{AreWordsOver}
use Rattle.version_build.proofs.JustThese.{just_map, just_these_cells}

module _ (m : Map) (cells : List Cell) (place : ℕ) (words : List ℕ) (is : AreComponent m cells) (within : place < length cells) (over : AreWordsOver cells place words) where
  -- it is the row of its cell over the whole map
  pub known_row : IsRowFrom m cells (cell_of cells place) (map run_of_word words)
  known_row =
      let part : Map = just_map m is.component in
      let just : HasJust part is.component = just_these_cells m is.component is.is.passable in
      let just_cells : HasJust part cells = HasJust-permuted part cells is.component (IsPermutation-sym cells is.component is.order) just in
      (components_keep_each_row m is.component cells part is.is is.order just_cells (cell_of cells place) (map run_of_word words)
      (Contains-get_or cells place (record { x = 0; y = 0 }) within)).0 (over.row.over part just_cells)
