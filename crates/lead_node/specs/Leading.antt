-- A leader: the door of the feed.
use Rattle.std.specs.Prelude.{ℕ, ⊤, List}
use Rattle.moves.specs.Maps.{Map}
use Rattle.path_core.specs.declared.entry.Entry.{Entry}
use Rattle.path_core.specs.Boards.{Boarded}
use Rattle.wire.specs.Knocks.{AtDoor}
use Rattle.session.specs.ServedBoards.{IsServedBy}
use Rattle.session.specs.Standing.{Place}
use Rattle.session.specs.Trades.{IsFedTalk}

-- all places
abbrev pub everywhere : Place → Type 0
everywhere place = ⊤

-- THE DOOR WAS FED by the pass with that number, as a door is served: by feeds of this map, and nothing was entered
abbrev pub IsFed : {D : Type 0} → (D → AtDoor) → Map → Boarded → ℕ → D → D → List Entry → Type 0
IsFed at start = IsServedBy at (IsFedTalk start) everywhere
