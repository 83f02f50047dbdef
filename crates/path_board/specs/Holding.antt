-- The version that a pass holds.
use Rattle.std.specs.Prelude.{◌≡◌, ℕ, ◌≤◌, List, [], length, take, Option, Some, None}
use Rattle.moves.specs.Maps.{map_of}
use Rattle.cell_order.specs.declared.OrderKind.TheVariants.{Rows}
use Rattle.versions.specs.Databases.{Versioned}
use Rattle.path_core.specs.declared.entry.Entry.{Entry}
use Rattle.path_core.specs.Histories.{accepted_count, map_at, published_prefix}
use Rattle.path_board.specs.declared.state.Foundation.{Foundation}

abbrev pub no_foundation : Foundation
no_foundation = record { start = map_of 0 0 []; order = Rows; room = 0 }

-- what a seat knows of the board's foundation, which every seat does
abbrev pub foundation_or : Option Foundation → Foundation
foundation_or None = no_foundation
foundation_or (Some base) = base

-- the version is the one that was published last in the first so many entries of what was seen
pub record IsHeld (base : Foundation) (seen : List Entry) (count : ℕ) (version : Versioned) : Type 0 where
  pub few : count ≤ length seen
  pub prefix_is : version.prefix ≡ published_prefix (take count seen)
  pub accepted : version.prefix ≤ accepted_count (take count seen)
  pub map_is : version.map ≡ map_at base.start (take count seen) version.prefix
  pub order_is : version.order ≡ base.order
