-- What a search from one cell has found: the least cost of each cell, and the reached cells in order of increasing
-- cost.
use Rattle.std.specs.Prelude.{◌≡◌, ℕ, ◌+◌, ◌*◌, ◌<◌, ◌≤◌, List, [], Option, Some, None, IsSome, MatchOption, map, length, slice_index_or, All, AllPairs, Contains}
use Rattle.root_cost.specs.declared.Cost.{Cost}
use Rattle.root_cost.specs.Costs.{IsAtMost, key_of}
use Rattle.moves.specs.declared.Cell.{Cell}
use Rattle.moves.specs.Maps.{Map, IsInside, place_of, passable_count, IsSearchable}
use Rattle.moves.specs.Paths.{IsLeastCost}
use Rattle.root_cost.specs.declared.TheConstants.{NO_KEY}

-- a search as its callers see it: the number of cells it has room for, the sides of the map searched last, the costs of
-- that map's cells, row by row, and the reached cells in the order in which they were settled
pub record Searched : Type 0 where
  pub room : ℕ
  pub width : ℕ
  pub height : ℕ
  pub costs : List (Option Cost)
  pub settled : List Cell

-- nothing was searched yet, and there is room for that many cells
abbrev pub nothing_searched : ℕ → Searched
nothing_searched cells = record { room = cells; width = 0; height = 0; costs = []; settled = [] }

-- the cost of a cell, or none if it was not reached
abbrev pub cost_at : Searched → Cell → Option Cost
cost_at search cell = slice_index_or search.costs (place_of search.width cell) None

-- the cell lies inside the map searched last, and was reached
pub record HasCost (search : Searched) (cell : Cell) : Type 0 where
  pub column : cell.x < search.width
  pub row : cell.y < search.height
  pub cost : IsSome (cost_at search cell)

-- both cells have a cost, and that of the first is at most that of the second
abbrev pub IsNoDearer : Searched → Cell → Cell → Type 0
IsNoDearer search a b = MatchOption (cost_at search a) ⊥
    (λ first. MatchOption (cost_at search b) ⊥ (λ second. IsAtMost first second))

-- The settled cells are those with a cost, each once, in order of increasing cost, the source first.
pub record IsInOrder (source : Cell) (search : Searched) : Type 0 where
  pub all : (cell : Cell) → HasCost search cell → Contains search.settled cell
  pub reached : All (HasCost search) search.settled
  pub once : AllPairs (λ a b. a ≡ b → ⊥) search.settled
  pub rising : AllPairs (IsNoDearer search) search.settled
  pub some : 0 < length search.settled
  pub first : slice_index_or search.settled 0 source ≡ source

-- The search has the least costs on that map from that source, each of fewer steps than there are passable cells. There
-- are at most 32,768 passable cells, and no more settled cells than passable ones.
pub record HasSearched (map : Map) (source : Cell) (search : Searched) : Type 0 where
  pub width : search.width ≡ map.width
  pub height : search.height ≡ map.height
  pub cells : length search.costs ≡ map.width * map.height
  pub least : (cell : Cell) → IsInside map cell → IsLeastCost map source cell (cost_at search cell)
  pub few : IsSearchable map
  pub short : (cell : Cell) (cost : Cost) → IsInside map cell → cost_at search cell ≡ Some cost
      → cost.straight + cost.diagonal < passable_count map
  pub order : IsInOrder source search
  pub counted : length search.settled ≤ passable_count map

-- the key of a cost, or a number above every key if there is no cost
abbrev pub key_or_none : Option Cost → ℕ
key_or_none None = NO_KEY
key_or_none (Some cost) = key_of cost

-- the keys of a search's costs, row by row
abbrev pub keys_of : Searched → List ℕ
keys_of search = map key_or_none search.costs
