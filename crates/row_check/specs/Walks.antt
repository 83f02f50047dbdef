-- Rows of runs from each cell of a component to all of them, of which nothing is believed, and the walks that they
-- spell. (Botea 2011: a path is read from a table of first moves. Strasser, Harabor and Botea 2014: a row packed into
-- runs.)
--
-- The cells of `...` in their order have the rows (0,E) and (0,W),(2,E) and (0,W). With them each cell walks to each:
-- from the first cell E, E to the last. Where the last row is (0,E), no walk leads from the last cell to the first.
use Rattle.std.specs.Prelude.{◌≡◌, ◌≢◌, ℕ, ◌<◌, ◌≤◌, List, [], ◌∷◌, length, All, AllPairs}
use Rattle.run_pack.specs.declared.Run.{Run}
use Rattle.run_pack.specs.Runs.{IsRow}
use Rattle.moves.specs.declared.Cell.{Cell}
use Rattle.moves.specs.declared.Move.{Move}
use Rattle.moves.specs.declared.TheConstants.{MAX_PASSABLE}
use Rattle.moves.specs.Maps.{Map}
use Rattle.moves.specs.Moves.{IsLegal}
use Rattle.moves.specs.Rectangles.{IsOnMap}
use Rattle.moves.specs.StraightPaths.{IsConnected}
use Rattle.moves.specs.FirstSetLists.{cell_of}
use Rattle.row_store.specs.Rows.{row_at}
use Rattle.versions.specs.Spelled.{IsKept}

-- the cells of a component in some order: each once, on a map, and connected among themselves
pub record AreComponentCells (cells : List Cell) : Type 0 where
  pub some : 0 < length cells
  pub few : length cells ≤ MAX_PASSABLE
  pub on_map : All IsOnMap cells
  pub once : AllPairs (λ a b. a ≢ b) cells
  pub connected : IsConnected cells

-- one row for each cell, over as many places as there are cells, and each run has the number of a move
pub record AreShaped (cells : List Cell) (rows : List (List Run)) : Type 0 where
  pub whole : length rows ≡ length cells
  pub each : (source : ℕ) → source < length cells → IsRow (row_at rows source) (length cells)
  pub moves : (source : ℕ) → source < length cells → All (λ run. run.mv < 8) (row_at rows source)

-- The moves walk from a cell to the target: none where the cell is the target, and else the move that its row keeps for
-- the target, which is legal, and then those that walk on from where it leads.
abbrev pub WalksTo : Map → List Cell → List (List Run) → Cell → List Move → Cell → Type 0
WalksTo map cells rows from [] target = from ≡ target
WalksTo map cells rows from (move ∷ moves) target =
    (from ≢ target) × IsKept cells rows from target move × (next : Cell) × IsLegal map from move next
    × WalksTo map cells rows next moves target

-- the walk between the cells at two places
abbrev pub IsWalkOf : Map → List Cell → List (List Run) → ℕ → ℕ → List Move → Type 0
IsWalkOf map cells rows source target moves = WalksTo map cells rows (cell_of cells source) moves (cell_of cells target)

-- some moves walk from the cell at the one place to the cell at the other
abbrev pub HasWalk : Map → List Cell → List (List Run) → ℕ → ℕ → Type 0
HasWalk map cells rows target source = (moves : List Move) × IsWalkOf map cells rows source target moves

-- none do
abbrev pub HasNoWalk : Map → List Cell → List (List Run) → ℕ → ℕ → Type 0
HasNoWalk map cells rows target source = (moves : List Move) → IsWalkOf map cells rows source target moves → ⊥
