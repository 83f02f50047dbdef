-- The path that a database spells: at each cell, the move kept there for the goal. (Botea 2011)
use Rattle.std.specs.Prelude.{◌≡◌, ◌≢◌, ℕ, ◌<◌, List, [], ◌∷◌, length, Contains}
use Rattle.moves.specs.declared.Cell.{Cell}
use Rattle.moves.specs.declared.Move.{Move}
use Rattle.moves.specs.Maps.{Map}
use Rattle.moves.specs.Moves.{number_of, IsTarget}
use Rattle.moves.specs.Paths.{IsBest}
use Rattle.run_pack.specs.declared.Run.{Run}
use Rattle.run_pack.specs.Runs.{IsCoveringMove}
use Rattle.moves.specs.ComponentLaws.{HasJust}
use Rattle.row_store.specs.Comps.{IsPlaceOf}
use Rattle.row_store.specs.Rows.{row_at, AreRows}

-- the move of the run that covers the goal in the row of a cell
pub record IsKept (cells : List Cell) (rows : List (List Run)) (from goal : Cell) (move : Move) : Type 0 where
  pub source : ℕ
  pub column : ℕ
  pub leaves : IsPlaceOf cells from source
  pub arrives : IsPlaceOf cells goal column
  pub covers : IsCoveringMove (row_at rows source) (length cells) column (number_of move)

-- These moves are spelled: none if the cell is the goal, otherwise the move kept for the goal in the row of the cell,
-- followed by those spelled from where it leads. This does not say that these moves exist, or that they are a path.
abbrev pub Spells : List Cell → List (List Run) → Cell → List Move → Cell → Type 0
Spells cells rows from [] goal = from ≡ goal
Spells cells rows from (move ∷ moves) goal =
    (from ≢ goal) × IsKept cells rows from goal move × (next : Cell) × IsTarget from move next × Spells cells rows next moves goal

-- a walk: the only list of moves that is spelled, a best path with fewer moves than there are cells
pub record IsWalkAmong (map : Map) (cells : List Cell) (rows : List (List Run)) (from goal : Cell) : Type 0 where
  pub moves : List Move
  pub spelled : Spells cells rows from moves goal
  pub best : IsBest map from moves goal
  pub short : length moves < length cells

-- rows of some cells spell a walk from each of them to each, on any map with exactly these passable cells
abbrev pub WalksAreBestAmong : Type 0
WalksAreBestAmong =
    (cells : List Cell) (rows : List (List Run)) → AreRows cells rows → (map : Map) → HasJust map cells
    → (from goal : Cell) → Contains cells from → Contains cells goal → IsWalkAmong map cells rows from goal
