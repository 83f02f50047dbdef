-- A board as its callers see it, and how it changes.
use Rattle.std.specs.Prelude.{◌≡◌, ℕ, ◌≤◌, List, [], ◌∷◌, ◌++◌}
use Rattle.moves.specs.Maps.{Map}
use Rattle.cell_order.specs.declared.OrderKind.{OrderKind}
use Rattle.versions.specs.Databases.{Versioned}
use Rattle.path_core.specs.declared.entry.Entry.{Entry}
use Rattle.path_core.specs.declared.entry.Entry.TheVariants.{Publish}
use Rattle.path_core.specs.Histories.{accepted_count, IsVersionAt}

-- its first map, the order of its versions, its history, the published version, and its room: while the history has
-- fewer entries than that, entering another takes no memory
pub record Boarded : Type 0 where
  pub start : Map
  pub order : OrderKind
  pub history : List Entry
  pub version : Versioned
  pub room : ℕ

-- the board with these four parts, whose order is that of its version
abbrev pub board_of : Map → List Entry → Versioned → ℕ → Boarded
board_of start history version room =
    record { start = start; order = version.order; history = history; version = version; room = room }

-- a board with no entries
abbrev pub new_board : Map → Versioned → ℕ → Boarded
new_board start version room = board_of start [] version room

-- the board with one more entry
abbrev pub with_entry : Boarded → Entry → Boarded
with_entry board entry = record board { history = board.history ++ entry ∷ [] }

-- the board on which a pass has published a version
abbrev pub with_version : Boarded → ℕ → Versioned → Boarded
with_version board pass version = record board { history = board.history ++ Publish pass version.prefix ∷ []; version = version }

-- the version is that of the map before any edit
pub record IsFirst (start : Map) (version : Versioned) : Type 0 where
  pub map : version.map ≡ start
  pub none : version.prefix ≡ 0

-- The version may be published after a history, unless a later one already is: it is that of a prefix of the accepted
-- edits, in the board's order.
pub record MayBePublished (start : Map) (order : OrderKind) (history : List Entry) (version : Versioned) : Type 0 where
  pub accepted : version.prefix ≤ accepted_count history
  pub is : IsVersionAt start order history version.prefix version
