-- The sets that a set is made from.
use Rattle.std.specs.Prelude.{◌≡◌, ◌≢◌, ℕ, ◌*◌, ◌<◌, ◌≤◌, ◌⊎◌, ◌↔◌, Bool, List, Some, slice_index, slice_index_or}
use Rattle.root_cost.specs.declared.Cost.{Cost}
use Rattle.root_cost.specs.Costs.{plus_step}
use Rattle.moves.specs.declared.Cell.{Cell}
use Rattle.moves.specs.declared.Move.{Move}
use Rattle.moves.specs.Maps.{Map, IsInside, place_of}
use Rattle.moves.specs.Moves.{IsLegal}
use Rattle.moves.specs.MoveSets.{Has, IsEmpty}
use Rattle.moves.specs.FirstSets.{IsFirstMove}
use Rattle.moves.specs.CostTables.{after_step}
use Rattle.grid_search.specs.Searches.{Searched, cost_at}

-- the second cell costs exactly one step more than the first, a diagonal or a straight one
abbrev pub CostsStep : Searched → Cell → Bool → Cell → Type 0
CostsStep search before diagonal to =
    (cost : Cost) × (cost_at search before ≡ Some cost) × (cost_at search to ≡ Some (plus_step cost diagonal))

-- the move is legal, and the second cell costs exactly that step more than the first
pub record Attains (map : Map) (search : Searched) (before : Cell) (last : Move) (to : Cell) : Type 0 where
  pub legal : IsLegal map before last to
  pub cost_before : Cost
  pub before_is : cost_at search before ≡ Some cost_before
  pub to_is : cost_at search to ≡ Some (after_step cost_before last)

-- a cell's set in a list that goes row by row
abbrev pub set_in : ℕ → List ℕ → Cell → ℕ
set_in width sets cell = slice_index sets (place_of width cell)

-- each cell of the map has its first set in a list that goes row by row
abbrev pub HaveFirstSets : Map → Cell → List ℕ → Type 0
HaveFirstSets map source sets =
    (cell : Cell) (move : Move) → IsInside map cell → Has
    (set_in map.width sets cell) move ↔ IsFirstMove map source cell move

-- the move is in the cell's set already, or in that of a cell from which a step attains the cell's cost
abbrev pub IsPassedOn : Map → Searched → List ℕ → Cell → Move → Type 0
IsPassedOn map search sets to move =
    Has (set_in map.width sets to) move
    ⊎ ((before : Cell) × (last : Move) × Attains map search before last to × Has (set_in map.width sets before) move)

-- The first `i` cells of the order have their first sets, except the source, whose set is still empty. Each other cell
-- has the moves by which the source itself attains its cost, and everything beyond the map is empty.
pub record IsPassed (map : Map) (source : Cell) (search : Searched) (i : ℕ) (sets : List ℕ) : Type 0 where
  pub empty : IsEmpty (set_in map.width sets source)
  pub done : (j : ℕ) → j < i → slice_index_or search.settled j source ≢ source → (move : Move)
      → Has (set_in map.width sets (slice_index_or search.settled j source)) move ↔ IsFirstMove map source
      (slice_index_or search.settled j source) move
  pub waiting : (cell : Cell) → IsInside map cell → ((j : ℕ) → j < i → slice_index_or search.settled j source ≢ cell)
      → (move : Move)
      → Has (set_in map.width sets cell) move ↔ Attains map search source move cell
  pub beyond : (place : ℕ) (move : Move) → map.width * map.height ≤ place → Has (slice_index sets place) move → ⊥
