-- Workers at doors: what each of them did, and what is read of a list of them.
use Rattle.std.specs.Prelude.{◌≡◌, ◌⊎◌, ℕ, ◌<◌, Bool, true, false, IsTrue, IsFalse, List, None, Option, Some, length, map, reverse, slice_index_or}
use Rattle.std.specs.List.{list_any}
use Rattle.path_core.specs.Histories.{IsHalting}
use Rattle.path_board.specs.declared.pass.Pass.{Pass}
use Rattle.path_board.specs.Passes.{seen_of}
use Rattle.wire.specs.Causes.{Rose}
use Rattle.wire.specs.Talks.{EndedTalk}
use Rattle.session.specs.declared.crews.Worker.{Worker}
use Rattle.session.specs.declared.doors.DoorEnded.{DoorEnded}
use Rattle.session.specs.declared.doors.DoorEnded.TheVariants.{Halting, Closed, Failed}
use Rattle.session.specs.Doors.{DoorEndsSo, HasServed}
use Rattle.session.specs.Seats.{place_of, standing_of}
use Rattle.session.specs.Standing.{Place, Standing}
use Rattle.wire.specs.Knocks.{AtDoor}

-- what is read of each, that of the last first
abbrev pub backwards : {W X : Type 0} → List W → (W → X) → List X
backwards workers read = reverse (map read workers)

-- whether one of them passes
abbrev pub any_of : {W : Type 0} → List W → (W → Bool) → Bool
any_of workers passes = list_any passes workers

-- whether a loop ended by a knock that failed
abbrev pub has_failed : Option DoorEnded → Bool
has_failed None = false
has_failed (Some Halting) = false
has_failed (Some Closed) = false
has_failed (Some Failed) = true

-- a worker that may begin: its door is not closed, and the trade fits its place
pub record MayBegin {D B C : Type 0} (at : D → AtDoor) (fits : Place → Type 0) (worker : Worker D B C) : Type 0 where
  pub door_is : (at worker.door).closed ≡ false
  pub place_fits : fits (place_of worker.seat.pass)

module _ {D : Type 0} (at : D → AtDoor) (held : Place → Standing → EndedTalk → Standing → Type 0) (silent : Place → Type 0) where
  -- a worker with that pass served that door, and its loop has ended so
  pub record HasRun (pass_before : Pass) (before : D) (pass_after : Pass) (after : D)
      (ended : Option DoorEnded) : Type 0 where
    pub same : place_of pass_after ≡ place_of pass_before
    pub served : HasServed held silent (place_of pass_before) (standing_of pass_before) (at before).talks (standing_of pass_after)
        (at after).talks
    pub how : DoorEnded
    pub ended_is : ended ≡ Some how
    pub ends : DoorEndsSo how (seen_of pass_after) (at before) (at after)
    pub port_is : (at after).port ≡ (at before).port

  -- all workers of a list have
  pub record HaveAllRun {B C : Type 0} (before after : List (Worker D B C)) : Type 0 where
    pub long : length after ≡ length before
    pub each : (i : ℕ) (default : Worker D B C) → i < length before
        → HasRun (slice_index_or before i default).seat.pass (slice_index_or before i default).door
        (slice_index_or after i default).seat.pass (slice_index_or after i default).door (slice_index_or after i default).ended

  -- it has ended in some way
  pub record HasEnded (pass_before : Pass) (before : D) (pass_after : Pass) (after : D) : Type 0 where
    pub ended : Option DoorEnded
    pub run : HasRun pass_before before pass_after after ended

module _ {D : Type 0} (at : D → AtDoor) where
  -- the count of some door rose
  pub record SomeRose (before after : List D) : Type 0 where
    pub place : ℕ
    pub within : place < length before
    pub rose : (door : D) → Rose (at (slice_index_or before place door)).faults (at (slice_index_or after place door)).faults

  -- no knock failed: the door is closed, or the board halts
  pub record EndsWell (before after : D) (pass_after : Pass) : Type 0 where
    pub faults_are : (at after).faults ≡ (at before).faults
    pub why : ((at after).closed ≡ true) ⊎ IsHalting (seen_of pass_after)

module _ {D : Type 0} (at : D → AtDoor) (held : Place → Standing → EndedTalk → Standing → Type 0) (silent : Place → Type 0) where
  -- each door was served by the worker with the pass at its place; and whether a knock failed somewhere
  pub record HaveRun (doors : List D) (passes : List Pass) (doors_after : List D) (passes_after : List Pass)
      (failed : Bool) : Type 0 where
    pub doors_long : length doors_after ≡ length doors
    pub passes_long : length passes_after ≡ length doors
    pub each : (i : ℕ) (door : D) (pass : Pass) → i < length doors
        → HasEnded at held silent (slice_index_or passes i pass) (slice_index_or doors i door)
        (slice_index_or passes_after i pass) (slice_index_or doors_after i door)
    pub some : IsTrue failed → SomeRose at doors doors_after
    pub none : IsFalse failed → (i : ℕ) (door : D) (pass : Pass) → i < length doors
        → EndsWell at (slice_index_or doors i door) (slice_index_or doors_after i door)
        (slice_index_or passes_after i pass)
