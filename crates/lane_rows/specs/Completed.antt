-- The sets of a tile, with all moves at the source of each lane.
use Rattle.std.specs.Prelude.{ℕ, ◌<◌, take}
use Rattle.lane_rows.specs.Tiles.{Tile, IsRowOf}
use Rattle.lane_rows.specs.Packed.{sets_in}

-- the sets of each lane are as before, but for all moves at its source
abbrev pub AreCompleted : Tile → Tile → Type 0
AreCompleted old new = (lane : ℕ) → lane < 16 → IsRowOf old lane (sets_in (take new.count new.sets) lane)
