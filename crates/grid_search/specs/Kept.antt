-- What holds for the memory of a search between its calls.
use Rattle.std.specs.Prelude.{◌≡◌, ℕ, ◌*◌, ◌<◌, ◌≤◌, ◌⊎◌, List, take, length, slice_index_or, All, Any}
use Rattle.moves.specs.declared.Cell.{Cell}
use Rattle.moves.specs.Maps.{place_of}
use Rattle.grid_search.specs.Searches.{key_or_none}
use Rattle.root_cost.specs.Keys.{cost_if_key}
use Rattle.grid_search.specs.Queues.{Opened}
use Rattle.root_cost.specs.declared.TheConstants.{NO_KEY}
use Rattle.moves.specs.declared.TheConstants.{MAX_SIDE, MAX_PASSABLE}

-- the cell is inside a map of those sides
abbrev pub IsWithin : ℕ → ℕ → Cell → Type 0
IsWithin width height cell = (cell.x < width) × (cell.y < height)

-- there is room for as many cells of a map as a search reaches: at most 32,768
abbrev pub HasRoom : ℕ → ℕ → Type 0
HasRoom cells room = (cells ≤ room) ⊎ (MAX_PASSABLE ≤ room)

-- The list of settled cells and both queues have room for a search of any map whose keys fit; there are keys only at
-- the places of the settled cells, and each is the key of the cost that is read from it.
pub record IsKept (width height : ℕ) (front : Opened) (order : List Cell) (count : ℕ) : Type 0 where
  pub columns : width ≤ MAX_SIDE
  pub rows : height ≤ MAX_SIDE
  pub fits : width * height ≤ length front.keys
  pub order_room : HasRoom (length front.keys) (length order)
  pub straight_room : HasRoom (length front.keys) front.straight.room
  pub diagonal_room : HasRoom (length front.keys) front.diagonal.room
  pub counted : count ≤ length order
  pub inside : All (IsWithin width height) (take count order)
  pub written : (place : ℕ) → (slice_index_or front.keys place NO_KEY ≡ NO_KEY → ⊥)
      → Any (λ cell. place_of width cell ≡ place) (take count order)
  pub proper : (place : ℕ)
      → key_or_none (cost_if_key (slice_index_or front.keys place NO_KEY)) ≡ slice_index_or front.keys place NO_KEY
