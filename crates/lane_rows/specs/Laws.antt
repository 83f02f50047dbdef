-- What keys and sets that meet their equations are: the least costs, and the first sets.
use Rattle.std.specs.Prelude.{◌≡◌, ◌≢◌, ℕ, ◌<◌, ◌↔◌, Some, List, length}
use Rattle.root_cost.specs.declared.Cost.{Cost}
use Rattle.root_cost.specs.Keys.{key_of}
use Rattle.moves.specs.declared.Cell.{Cell}
use Rattle.moves.specs.declared.Move.{Move}
use Rattle.moves.specs.Maps.{Map}
use Rattle.moves.specs.ComponentLaws.{HasJust}
use Rattle.moves.specs.Paths.{IsLeastCost}
use Rattle.moves.specs.MoveSets.{Has}
use Rattle.moves.specs.FirstSets.{IsFirstMove}
use Rattle.moves.specs.FirstSetLists.{cell_of}
use Rattle.lane_rows.specs.Tables.{IsMutual, IsNumbered, AreNear}
use Rattle.lane_rows.specs.Visits.{AreSolved}

-- the neighbours of a component's cells, on a map whose passable cells are just these
pub record IsTableOf (map : Map) (cells : List Cell) (near : List (List ℕ)) : Type 0 where
  pub just : HasJust map cells
  pub numbered : IsNumbered cells
  pub edges : AreNear cells near
  pub pairs : IsMutual near

-- keys that meet their equations are those of the least costs
abbrev pub SolvedKeysAreLeast : Type 0
SolvedKeysAreLeast =
    (map : Map) (cells : List Cell) (near : List (List ℕ)) (source : ℕ) (keys sets : ℕ → ℕ)
    → IsTableOf map cells near → source < length cells → AreSolved near source keys sets
    → (place : ℕ) → place < length cells
    → (cost : Cost) × (key_of cost ≡ keys place)
    × IsLeastCost map (cell_of cells source) (cell_of cells place) (Some cost)

-- sets that meet their equations are the first sets
abbrev pub SolvedSetsAreFirst : Type 0
SolvedSetsAreFirst =
    (map : Map) (cells : List Cell) (near : List (List ℕ)) (source : ℕ) (keys sets : ℕ → ℕ)
    → IsTableOf map cells near → source < length cells → AreSolved near source keys sets
    → (place : ℕ) (move : Move) → place < length cells → place ≢ source
    → Has (sets place) move ↔ IsFirstMove map (cell_of cells source) (cell_of cells place) move
