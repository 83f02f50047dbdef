-- The move that is found in the row of a cell is kept there, and begins a best path.
use Rattle.std.proofs.Common.{◌≡◌, ℕ, ◌<◌, ◌≤◌, List, [], length, map, refl, sym, subst, arith}
use Rattle.std.proofs.lemmas.List.{length-map}
use Rattle.std.proofs.lemmas.List.Elements.{Contains-get_or}
use Rattle.run_pack.specs.declared.Run.{Run}
use Rattle.run_pack.specs.Runs.{AppendsRow, IsFound, IsRow, IsTight, IsCoveringMove, Rises, run_of_word}
use Rattle.run_pack.proofs.RowLemmas.{length-row}
use Rattle.moves.specs.declared.Cell.{Cell}
use Rattle.moves.specs.declared.Move.{Move}
use Rattle.moves.specs.declared.TheConstants.{MAX_PASSABLE}
use Rattle.moves.specs.Maps.{Map}
use Rattle.moves.specs.Moves.{number_of}
use Rattle.moves.specs.FirstSetLists.{cell_of, AreFirstSets}
use Rattle.row_store.specs.Rows.{row_at, IsRowFrom}
use Rattle.row_store.proofs.RowLaws.{components_keep_each_row, same_just, same_rows_from}
use Rattle.build_pool.specs.Places.{AreComponent, AreSources}
use Rattle.build_pool.specs.Pieces.{AreWordsOver, IsRowOver}
use Rattle.walk_rows.specs.Walks.{AreWordsFrom, IsKeptOver}

-- ---- what is found in a row is kept

pub kept_from_row : (cells : List Cell) (place to : ℕ) (row : List Run) (move : Move) → place < length cells → to < length cells → IsRowOver cells place row
    → IsFound row to (number_of move) → IsKeptOver cells (cell_of cells place) (cell_of cells to) move
kept_from_row cells place to row move within there is found = λ rows are.
    let over : IsRowFrom are.map cells (cell_of cells place) row = is.over are.map are.just in
    let same : row ≡ row_at rows place =
    same_rows_from are.map are.map cells (cell_of cells place) row (row_at rows place) (same_just are.map are.map cells are.just are.just) over (are.each place within) in
    let over_cells : IsRow row (length cells) = subst (IsRow row) over.first.whole over.tight.row in
    record {
      source = place;
      column = to;
      leaves = record { within = within; there = refl };
      arrives = record { within = there; there = refl };
      covers = subst (λ r. IsCoveringMove r (length cells) to (number_of move)) same (found.covering.covering (length cells) over_cells there);
    }

-- the words of a row are searched by rising starts
pub words_rise : (cells : List Cell) (at : Cell) (words : List ℕ) → AreSources cells → AreWordsFrom cells at words → Rises (map run_of_word words)
words_rise cells at words sources are = (are.are.row.over sources.board sources.just).tight.row.rises

pub kept_from_words : (cells : List Cell) (at : Cell) (words : List ℕ) (to : ℕ) (move : Move) → to < length cells → AreWordsFrom cells at words
    → IsFound (map run_of_word words) to (number_of move) → IsKeptOver cells at (cell_of cells to) move
kept_from_words cells at words to move there are found =
    subst (λ c. IsKeptOver cells c (cell_of cells to) move) are.at.there (kept_from_row cells are.place to (map run_of_word words) move are.at.within there are.are.row found)

-- ---- a row over the whole map

module _ (m : Map) (cells : List Cell) (p : AreComponent m cells) (place : ℕ) (within : place < length cells) (row : List Run) (is : IsRowFrom m cells (cell_of cells place) row) where
  pub row_over_cells : IsRowOver cells place row
  row_over_cells = record {
    over = λ part just.
        (components_keep_each_row m p.component cells part p.is p.order just (cell_of cells place) row (Contains-get_or cells place (record { x = 0; y = 0 }) within)).1 is;
  }

-- the words of a row that was found by a plain search
pub packed_words : (m : Map) (cells : List Cell) (p : AreComponent m cells) (place : ℕ) (within : place < length cells) → length cells ≤ MAX_PASSABLE → (sets words : List ℕ)
    → AreFirstSets m (cell_of cells place) cells sets → AppendsRow [] words sets → AreWordsOver cells place words
packed_words m cells p place within few sets words first put =
    let tight : IsTight (map run_of_word words) sets = subst (λ ws. IsTight (map run_of_word ws) sets) (sym put.behind) put.packed.tight in
    let short = length-row (map run_of_word words) (length sets) tight.row in
    let size = length-map words run_of_word in
    let whole = first.whole in
    record {
      few = omega arith;
      row = row_over_cells m cells p place within (map run_of_word words) (record { sets = sets; first = first; tight = tight });
    }
