-- A board that was served at its doors.
use Rattle.std.specs.Prelude.{◌≡◌, ◌⊎◌, ℕ, ◌<◌, Bool, true, IsTrue, IsFalse, List, [], ◌∷◌, ◌++◌, Some, length, slice_index_or}
use Rattle.path_core.specs.declared.entry.Entry.{Entry}
use Rattle.path_core.specs.Boards.{Boarded}
use Rattle.path_core.specs.Histories.{IsHalting}
use Rattle.path_core.specs.Passes.{OthersAdd}
use Rattle.path_board.specs.declared.pass.Pass.{Pass}
use Rattle.wire.specs.Talks.{EndedTalk}
use Rattle.session.specs.declared.builder.BuildTotals.{BuildTotals}
use Rattle.session.specs.declared.doors.DoorEnded.{DoorEnded}
use Rattle.session.specs.Builders.{HasBuilt}
use Rattle.session.specs.Crews.{HaveRun, SomeRose}
use Rattle.session.specs.Doors.{DoorEndsSo, HasServed, IsServedTalk}
use Rattle.session.specs.Seats.{place_of, standing_of}
use Rattle.session.specs.Standing.{Place, Standing}
use Rattle.wire.specs.Knocks.{AtDoor}

-- how a pass stands that has done nothing yet
abbrev pub first_standing : Standing
first_standing = record { seen = []; held = 0; looks = Some 0 }

-- the place of the pass with that number at a board
pub record IsPlaceAt (board : Boarded) (number : ℕ) (place : Place) : Type 0 where
  pub pass : place.pass ≡ number
  pub start : place.start ≡ board.start
  pub order : place.order ≡ board.order
  pub room : place.room ≡ board.room

-- each place at the board fits
abbrev pub FitsBoard : (Place → Type 0) → Boarded → Type 0
FitsBoard fits board = (number : ℕ) (place : Place) → IsPlaceAt board number place → fits place

module _ {D : Type 0} (at : D → AtDoor) where
  module _ (held : Place → Standing → EndedTalk → Standing → Type 0) (silent : Place → Type 0) where
    -- The pass with that number served the door from its first look on, up to what it saw last; the history goes on from there
    -- with no entry of its own.
    pub record IsServedBy (board : Boarded) (number : ℕ) (before after : D) (history : List Entry) : Type 0 where
      pub place : Place
      pub place_is : IsPlaceAt board number place
      pub last : Standing
      pub served : HasServed held silent place first_standing (at before).talks last (at after).talks
      pub ended : DoorEnded
      pub ends : DoorEndsSo ended last.seen (at before) (at after)
      pub port_is : (at after).port ≡ (at before).port
      pub to_end : OthersAdd number last.seen history

    -- EACH DOOR WAS SERVED by the pass with the number of its place, by talks of which that is so, and silently at those places
    pub record AreServedBy (board : Boarded) (before after : List D) (history : List Entry) : Type 0 where
      pub long : length after ≡ length before
      pub each : (i : ℕ) (default : D) → i < length before
          → IsServedBy board i (slice_index_or before i default) (slice_index_or after i default) history

  -- a door was served by sessions
  abbrev pub IsServed : Boarded → ℕ → D → D → List Entry → Type 0
  IsServed = IsServedBy (λ place from talk to. IsServedTalk place from talk to) (λ _. ⊥)

  -- EACH DOOR WAS SERVED by sessions
  abbrev pub AreServed : Boarded → List D → List D → List Entry → Type 0
  AreServed = AreServedBy (λ place from talk to. IsServedTalk place from talk to) (λ _. ⊥)

module _ {D : Type 0} (at : D → AtDoor) where
  -- no count of a door rose
  abbrev pub NoneRose : List D → List D → Type 0
  NoneRose before after = (i : ℕ) (default : D) → i < length before
      → (at (slice_index_or after i default)).faults ≡ (at (slice_index_or before i default)).faults

  -- each door is closed
  abbrev pub AllClosed : List D → Type 0
  AllClosed doors = (i : ℕ) (default : D) → i < length doors → (at (slice_index_or doors i default)).closed ≡ true

  -- HOW IT FAILED: the count of some door rose; or none did, and the board halts or each door is closed
  pub record FailedSo (failed : Bool) (before after : List D) (history : List Entry) : Type 0 where
    pub some : IsTrue failed → SomeRose at before after
    pub none : IsFalse failed → NoneRose before after × (IsHalting history ⊎ AllClosed after)

-- THE BUILDER, the pass with that number, built at each ring up to what it saw last; the history goes on from there with no
-- entry of its own.
pub record IsBuiltBy (board : Boarded) (number : ℕ) (totals : BuildTotals) (rung_before rung_after : ℕ)
    (history : List Entry) : Type 0 where
  pub place : Place
  pub place_is : IsPlaceAt board number place
  pub last : Standing
  pub built : HasBuilt place first_standing totals rung_before last rung_after
  pub to_end : OthersAdd number last.seen history

-- ---- before the board is closed

module _ {D : Type 0} (at : D → AtDoor) (held : Place → Standing → EndedTalk → Standing → Type 0) (silent : Place → Type 0) where
  -- all passes but the last served the doors, and the last built
  pub record IsParted (doors : List D) (passes : List Pass) (doors_after : List D) (passes_after : List Pass)
      (builds : BuildTotals) (failed : Bool)
      (rung_before rung_after : ℕ) : Type 0 where
    pub first : List Pass
    pub builder : Pass
    pub passes_are : passes ≡ first ++ builder ∷ []
    pub long : length first ≡ length doors
    pub first_after : List Pass
    pub builder_after : Pass
    pub passes_after_are : passes_after ≡ first_after ++ builder_after ∷ []
    pub ran : HaveRun at held silent doors first doors_after first_after failed
    pub same : place_of builder_after ≡ place_of builder
    pub built : HasBuilt (place_of builder) (standing_of builder) builds rung_before (standing_of builder_after) rung_after
