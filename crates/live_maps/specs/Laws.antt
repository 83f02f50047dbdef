-- The laws of live maps, for every map and every live map of it.
use Rattle.std.specs.Prelude.{◌≡◌, ℕ, ◌↔◌, false, List, Some}
use Rattle.root_cost.specs.declared.Cost.{Cost}
use Rattle.root_cost.specs.Costs.{IsAtMost}
use Rattle.moves.specs.declared.Cell.{Cell}
use Rattle.moves.specs.declared.Move.{Move}
use Rattle.moves.specs.Maps.{Map, IsPassable, place_of}
use Rattle.moves.specs.Moves.{IsLegal}
use Rattle.moves.specs.Paths.{IsBest, IsLeastCost, Leads, Reaches}
use Rattle.versions.specs.Databases.{Versioned}
use Rattle.versions.specs.Answers.{IsWalk}
use Rattle.live_maps.specs.Live.{IsFree, IsFreeAlong, IsLive, is_marked, live_map}

-- what bits make of a map is a live map of it
abbrev pub BitsMakeLiveMaps : Type 0
BitsMakeLiveMaps = (map : Map) (bits : List ℕ) → IsLive map (live_map map bits)

-- its passable cells are those of the map whose bits are not set
abbrev pub BitsBlockCells : Type 0
BitsBlockCells =
    (map : Map) (bits : List ℕ) (cell : Cell)
    → IsPassable (live_map map bits) cell ↔ (IsPassable map cell × (is_marked bits (place_of map.width cell) ≡ false))

-- a move is legal on the live map where it is so on the baked one and the cells that it has to do with are passable now
abbrev pub LiveMovesAreFreeMoves : Type 0
LiveMovesAreFreeMoves =
    (baked live : Map) → IsLive baked live → (from : Cell) (move : Move) (to : Cell)
    → IsLegal live from move to ↔ (IsLegal baked from move to × IsFree live from move to)

-- and so it is with paths
abbrev pub LivePathsAreFreePaths : Type 0
LivePathsAreFreePaths =
    (baked live : Map) → IsLive baked live → (from : Cell) (moves : List Move) (to : Cell)
    → Leads live from moves to ↔ (Leads baked from moves to × IsFreeAlong live from moves)

-- a best path of the baked map that is a path of the live one is a best path there
abbrev pub FreeBestPathsAreBest : Type 0
FreeBestPathsAreBest =
    (baked live : Map) → IsLive baked live → (from : Cell) (moves : List Move) (to : Cell)
    → IsBest baked from moves to → Leads live from moves to → IsBest live from moves to

-- so is the walk of a version where it is a path of the live map
abbrev pub FreeWalksAreBest : Type 0
FreeWalksAreBest =
    (version : Versioned) (live : Map) → IsLive version.map live → (start goal : Cell) (moves : List Move)
    → IsWalk version.map version.comps start goal moves → Leads live start moves goal → IsBest live start moves goal

-- a least cost of the baked map is at most that of the live one
abbrev pub BakedCostsAreBounds : Type 0
BakedCostsAreBounds =
    (baked live : Map) → IsLive baked live → (from to : Cell) (bound cost : Cost)
    → IsLeastCost baked from to (Some bound) → IsLeastCost live from to (Some cost) → IsAtMost bound cost

-- what the live map joins, the baked one joins
abbrev pub LiveJoinsAreBaked : Type 0
LiveJoinsAreBaked = (baked live : Map) → IsLive baked live → (from to : Cell) → Reaches live from to → Reaches baked from to
