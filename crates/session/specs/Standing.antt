-- How a pass stands at a board.
use Rattle.std.specs.Prelude.{◌≡◌, ◌⊎◌, ℕ, ◌<◌, ◌≤◌, All, List, [], ◌∷◌, ◌++◌, MatchOption, None, Option, Some}
use Rattle.atomic_table.specs.Seated.{TableId}
use Rattle.moves.specs.Maps.{Map}
use Rattle.cell_order.specs.declared.OrderKind.{OrderKind}
use Rattle.versions.specs.Databases.{Versioned}
use Rattle.path_core.specs.declared.entry.Entry.{Entry}
use Rattle.path_core.specs.Histories.{accepted_count, published_prefix, IsVersionAt}
use Rattle.path_core.specs.Passes.{pass_of, BeginsWith, OthersAdd}

-- which board it is that passes share, and how many passes it has, where the pass knows that
pub record Shared : Type 0 where
  pub board : TableId
  pub passes : Option ℕ

-- where a pass stands: its number, and of its board the first map, the order of the versions, the room, which is for how many
-- entries it took memory, and which one it is, where passes share it
pub record Place : Type 0 where
  pub pass : ℕ
  pub start : Map
  pub order : OrderKind
  pub room : ℕ
  pub shared : Option Shared

-- how it stands there: the history that it has seen, the prefix of the version that it holds, and how often it has looked,
-- where that is told
pub record Standing : Type 0 where
  pub seen : List Entry
  pub held : ℕ
  pub looks : Option ℕ

-- how a pass stands that has seen this, holds that version and has looked so often
abbrev pub standing : List Entry → Versioned → Option ℕ → Standing
standing seen version looks = record { seen = seen; held = version.prefix; looks = looks }

-- what is known of a desk: its place, the history that its pass has seen, the version that it holds, and how often it has
-- looked, where that is told
pub record AtDesk : Type 0 where
  pub place : Place
  pub seen : List Entry
  pub version : Versioned
  pub looks : Option ℕ

-- how a desk stands
abbrev pub stands : AtDesk → Standing
stands desk = standing desk.seen desk.version desk.looks

-- Meanwhile others may have added entries, where passes share the board. On a board of its own nothing was added.
pub record Meanwhile (place : Place) (old new : List Entry) : Type 0 where
  pub others : OthersAdd place.pass old new
  pub alone : place.shared ≡ None → new ≡ old

-- meanwhile others may have added entries, and then the pass added this one
pub record Enters (place : Place) (entry : Entry) (old new : List Entry) : Type 0 where
  pub between : List Entry
  pub others : Meanwhile place old between
  pub own : new ≡ between ++ entry ∷ []

-- entries were added, all of them by the pass
pub record AddsOnlyOwn (pass : ℕ) (old new : List Entry) : Type 0 where
  pub more : List Entry
  pub grown : new ≡ old ++ more
  pub own : All (λ entry. pass_of entry ≡ pass) more

-- told looks are more than before
abbrev pub Raises : Option ℕ → Option ℕ → Type 0
Raises before after = MatchOption before (after ≡ None) (λ count. (more : ℕ) × (after ≡ Some more) × (count < more))

-- the prefix was the published one of a history between the two
pub record WasPublished (before after : List Entry) (prefix : ℕ) : Type 0 where
  pub at : List Entry
  pub later : BeginsWith at before
  pub earlier : BeginsWith after at
  pub is : prefix ≡ published_prefix at

-- the prefix is the one from before, or was the published one of a history between
abbrev pub IsHeldSince : List Entry → ℕ → List Entry → ℕ → Type 0
IsHeldSince before old after new = (new ≡ old) ⊎ WasPublished before after new

-- the version that is held is the one from before, or was the published one of a history between
abbrev pub HoldsSince : Standing → Standing → Type 0
HoldsSince old new = IsHeldSince old.seen old.held new.seen new.held

-- on a board of its own the version that is held is the published one
abbrev pub HoldsItsOwn : Place → Standing → Type 0
HoldsItsOwn place now = place.shared ≡ None → now.held ≡ published_prefix now.seen

-- the version that a desk holds is that of accepted edits
pub record IsSound (desk : AtDesk) : Type 0 where
  pub is : IsVersionAt desk.place.start desk.place.order desk.seen desk.version.prefix desk.version
  pub within : desk.version.prefix ≤ accepted_count desk.seen
