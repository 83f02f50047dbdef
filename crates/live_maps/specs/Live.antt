-- Live maps: a map of which some cells are blocked for now. A bit a cell says so, place by place: the bit of a place is bit
-- place % 32 of word place / 32. (Bono, Gerevini, Harabor and Stuckey 2019: a path database guides searches on a map that
-- has changed.)
use Rattle.std.specs.Prelude.{◌≡◌, ℕ, ◌+◌, ◌*◌, ◌/◌, ◌%◌, ◌^◌, ◌==◌, Bool, IsTrue, List, [], ◌∷◌, length, map, slice_index, slice_index_or, if◌then◌else◌}
use Rattle.std.specs.List.{range_with_len}
use Rattle.moves.specs.declared.Cell.{Cell}
use Rattle.moves.specs.declared.Move.{Move}
use Rattle.moves.specs.declared.Terrain.{Terrain}
use Rattle.moves.specs.declared.Terrain.TheVariants.{Blocked}
use Rattle.moves.specs.Maps.{Map, IsPassable, map_of, terrain_of}
use Rattle.moves.specs.Moves.{IsTarget, corner, is_diagonal}

-- ---- the bits

-- the bit of a place is set
abbrev pub is_marked : List ℕ → ℕ → Bool
is_marked bits place = slice_index bits (place / 32) / 2 ^ (place % 32) % 2 == 1

-- how many words have a bit for each cell of a map
abbrev pub bit_words : ℕ → ℕ → ℕ
bit_words width height = (width * height + 31) / 32

-- there is a bit for each cell of the map, and no word more
abbrev pub HasBits : Map → List ℕ → Type 0
HasBits map bits = length bits ≡ bit_words map.width map.height

-- what stands at a place now: nothing can stand there while its bit is set
abbrev pub terrain_now : Map → List ℕ → ℕ → Terrain
terrain_now map bits place = if is_marked bits place then Blocked else slice_index_or map.terrain place Blocked

-- the live map: the map with each cell blocked whose bit is set. A cell that the map has as blocked stays so, whatever its bit.
unfoldable pub live_map : Map → List ℕ → Map
live_map m bits = map_of m.width m.height (map (terrain_now m bits) (range_with_len 0 (length m.terrain)))

-- ---- the relation of two maps

-- The other map is a live map of the baked one: it has the same sides, and each of its passable cells is passable in the
-- baked map too, with the same terrain.
pub record IsLive (baked live : Map) : Type 0 where
  pub columns : live.width ≡ baked.width
  pub rows : live.height ≡ baked.height
  pub passable : (cell : Cell) → IsPassable live cell → IsPassable baked cell
  pub same : (cell : Cell) → IsPassable live cell → terrain_of live cell ≡ terrain_of baked cell

-- the cells that a move has to do with are passable: both ends and, for a diagonal one, the two beside it
pub record IsFree (map : Map) (from : Cell) (move : Move) (to : Cell) : Type 0 where
  pub leaves : IsPassable map from
  pub enters : IsPassable map to
  pub corners : IsTrue (is_diagonal move) → IsPassable map (corner from to) × IsPassable map (corner to from)

-- so it is with each of these moves, one after the other
abbrev pub IsFreeAlong : Map → Cell → List Move → Type 0
IsFreeAlong map from [] = IsPassable map from
IsFreeAlong map from (move ∷ moves) = (next : Cell) × IsTarget from move next × IsFree map from move next × IsFreeAlong map next moves
