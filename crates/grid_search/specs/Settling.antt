-- What holds while a search settles cells one by one, by rising key, however it finds the next one.
use Rattle.std.specs.Prelude.{◌≡◌, ℕ, ◌+◌, ◌*◌, ◌<◌, ◌≤◌, ◌⊎◌, List, length, slice_index_or, All, AllPairs, Contains}
use Rattle.root_cost.specs.declared.Cost.{Cost}
use Rattle.root_cost.specs.Costs.{key_of}
use Rattle.moves.specs.declared.Cell.{Cell}
use Rattle.moves.specs.declared.Move.{Move}
use Rattle.moves.specs.Maps.{Map, IsInside, place_of}
use Rattle.moves.specs.Moves.{IsTarget, IsLegal}
use Rattle.grid_search.specs.Keys.{move_key, key_at}
use Rattle.root_cost.specs.declared.TheConstants.{NO_KEY}

-- the cell is inside and has a key
pub record IsReached (map : Map) (keys : List ℕ) (cell : Cell) : Type 0 where
  pub inside : IsInside map cell
  pub found : key_at map.width keys cell < NO_KEY

-- What holds between turns: no settled cell has a higher key than a waiting one, no step from a settled cell is missed,
-- and each key but the source's comes by a step from a settled cell.
pub record IsProgress (map : Map) (source : Cell) (keys : List ℕ) (settled : List Cell) : Type 0 where
  pub start : key_at map.width keys source ≡ 0
  pub relaxed : (a b : Cell) (move : Move) → Contains settled a → IsLegal map a move b
      → key_at map.width keys b ≤ key_at map.width keys a + move_key move
  pub attained : (b : Cell) → IsReached map keys b → (b ≡ source → ⊥)
      → (a : Cell) × (move : Move) × Contains settled a × IsLegal map a move b
      × (key_at map.width keys b ≡ key_at map.width keys a + move_key move)
  pub waits : (a b : Cell) → Contains settled a → IsReached map keys b → (Contains settled b → ⊥)
      → key_at map.width keys a ≤ key_at map.width keys b
  pub costs : (b : Cell) → IsReached map keys b → (cost : Cost) × (key_of cost ≡ key_at map.width keys b)
      × (cost.straight + cost.diagonal ≤ length settled)
  pub shorter : (b : Cell) → Contains settled b → (cost : Cost) × (key_of cost ≡ key_at map.width keys b)
      × (cost.straight + cost.diagonal < length settled)
  pub reached : All (IsReached map keys) settled
  pub once : AllPairs (λ a b. a ≡ b → ⊥) settled
  pub rising : AllPairs (λ a b. key_at map.width keys a ≤ key_at map.width keys b) settled
  pub beyond : (place : ℕ) → map.width * map.height ≤ place → slice_index_or keys place NO_KEY ≡ NO_KEY

-- the cell has the least key of those that are reached and not yet settled
pub record IsNext (map : Map) (keys : List ℕ) (settled : List Cell) (cell : Cell) : Type 0 where
  pub reached : IsReached map keys cell
  pub open_yet : Contains settled cell → ⊥
  pub least : (b : Cell) → IsReached map keys b → (Contains settled b → ⊥)
      → key_at map.width keys cell ≤ key_at map.width keys b

-- every move
abbrev pub EveryMove : Move → Type 0
EveryMove move = Unit {0}

-- that move
abbrev pub OnlyMove : Move → Move → Type 0
OnlyMove by move = by ≡ move

-- Steps from a cell with a key were taken: no key rose; where one of these moves leads, no key is more than a step
-- above that key; and each key that fell is exactly a step above it.
pub record IsRelaxed (map : Map) (from : Cell) (key : ℕ) (taken : Move → Type 0) (before after : List ℕ) : Type 0 where
  pub lower : (b : Cell) → IsInside map b → key_at map.width after b ≤ key_at map.width before b
  pub moved : (b : Cell) (move : Move) → taken move → IsLegal map from move b
      → key_at map.width after b ≤ key + move_key move
  pub from_there : (b : Cell) → IsInside map b → (key_at map.width after b ≡ key_at map.width before b)
      ⊎ ((move : Move) × IsLegal map from move b × (key_at map.width after b ≡ key + move_key move))
  pub beyond : (place : ℕ) → map.width * map.height ≤ place
      → slice_index_or after place NO_KEY ≡ slice_index_or before place NO_KEY

-- every reached cell is settled
pub record IsFinished (map : Map) (source : Cell) (keys : List ℕ) (settled : List Cell) : Type 0 where
  pub progress : IsProgress map source keys settled
  pub over : (b : Cell) → IsReached map keys b → Contains settled b
  pub limit : (b : Cell) → IsInside map b → key_at map.width keys b ≤ NO_KEY

-- the move leads to a column and a row that are not below 0
abbrev pub HasTarget : Cell → Move → Type 0
HasTarget from by = (to : Cell) × IsTarget from by to

-- the place of the cell that the move leads to
abbrev pub IsTargetPlace : ℕ → Cell → Move → ℕ → Type 0
IsTargetPlace width from by place = (to : Cell) → IsTarget from by to → place ≡ place_of width to
