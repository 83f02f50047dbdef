-- Words of the contracts inside this crate. The theorem does not need them.
use Rattle.std.specs.Prelude.{◌≡◌, ◌⊎◌, ℕ, ◌≤◌, List, ◌++◌, map, length, All, Option, Some, None, IfSome}
use Rattle.std.specs.Option.{option_map}
use Rattle.moves.specs.declared.Cell.{Cell}
use Rattle.moves.specs.declared.Move.{Move}
use Rattle.moves.specs.Maps.{IsSearchable}
use Rattle.edit_log.specs.Edits.{EditsInside}
use Rattle.versions.specs.Databases.{Versioned}
use Rattle.versions.specs.Answers.{Answer, IsAnswer}
use Rattle.version_build.specs.Builders.{Building}
use Rattle.walker.specs.Walks.{Walking, IsAhead}
use Rattle.path_core.specs.declared.entry.Entry.{Entry}
use Rattle.path_core.specs.Boards.{Boarded}
use Rattle.path_core.specs.Histories.{accepted_count, edits_of, map_at, map_now, published_prefix, IsVersionAt}
use Rattle.path_replay.specs.declared.TheConstants.{PASSES}
use Rattle.path_replay.specs.declared.event.Event.{Event}
use Rattle.path_replay.specs.Events.{Said, IsSaid}
use Rattle.path_replay.specs.Replays.{OpenBuild, PassState, Replaying, IsSaidOf, IsStep}
use Rattle.path_replay.specs.Texts.{answer_text, names_text, query_text}

-- the event that was read is the one that is said, if one is
abbrev pub IsReadAs : Option Said → Option Event → Type 0
IsReadAs None None = Unit {0}
IsReadAs (Some said) (Some event) = IsSaid said event
IsReadAs _ _ = ⊥

-- a pass: the version that it holds, and what it builds
pub record Holding : Type 0 where
  pub version : Versioned
  pub building : Option Building

-- what a replay tells of what is built
abbrev pub build_of : Building → OpenBuild
build_of building =
    record { prefix = building.plan.prefix; built = building.plan.built; kept = building.plan.kept; left = building.left }

-- and of a pass
abbrev pub standing_of : Holding → PassState
standing_of pass = record { held = pass.version.prefix; building = option_map build_of pass.building }

abbrev pub replaying_of : List Entry → List Holding → Replaying
replaying_of history passes = record { history = history; passes = map standing_of passes }

-- what is built is the version after some of the accepted edits
pub record IsOpen (board : Boarded) (building : Building) : Type 0 where
  pub map : building.plan.map ≡ map_at board.start board.history building.plan.prefix
  pub order : building.plan.order ≡ board.order
  pub within : building.plan.prefix ≤ accepted_count board.history

-- so is the version that a pass holds, and what it builds
pub record IsSound (board : Boarded) (pass : Holding) : Type 0 where
  pub version : IsVersionAt board.start board.order board.history pass.version.prefix pass.version
  pub within : pass.version.prefix ≤ accepted_count board.history
  pub building : IfSome pass.building (IsOpen board)

-- what was so stays so
abbrev pub StaysSound : Holding → Holding → Type 0
StaysSound old new = (board : Boarded) → IsSound board old → IsSound board new

-- the map may be searched, and each accepted edit lies inside it
pub record IsReplayable (board : Boarded) : Type 0 where
  pub inside : EditsInside board.start (edits_of board.history)
  pub searchable : IsSearchable (map_now board.start board.history)

-- entries are added, and the map, the order and the room stay
pub record Grows (old new : Boarded) : Type 0 where
  pub start : new.start ≡ old.start
  pub order : new.order ≡ old.order
  pub room : new.room ≡ old.room
  pub more : List Entry
  pub history : new.history ≡ old.history ++ more

-- what is said of an answer is added to a text
pub record SaysAnswer (version : Versioned) (start goal : Cell) (old new : List ℕ) : Type 0 where
  pub answer : Answer
  pub is : IsAnswer version start goal answer
  pub added : new ≡ old ++ answer_text answer

pub record AddsAnswer (version : Versioned) (start goal : Cell) (old new : List ℕ) : Type 0 where
  pub answer : Answer
  pub is : IsAnswer version start goal answer
  pub added : new ≡ old ++ query_text version.prefix answer

-- the names of the moves that are ahead of a walk are added to a text
abbrev pub AddsNames : Walking → List ℕ → List ℕ → Type 0
AddsNames walk old new = (moves : List Move) → IsAhead walk moves → new ≡ old ++ names_text moves

-- what is said of an event is added to a text
pub record AddsSaid (old : Boarded) (pass : Holding) (event : Event) (new : Boarded) (after : Holding) (before text : List ℕ) : Type 0 where
  pub said : List ℕ
  pub is : IsSaidOf old.start old.order (record { history = old.history; state = standing_of pass }) event said
      (record { history = new.history; state = standing_of after })
  pub added : text ≡ before ++ said

-- where memory runs out, the event has left its entry or none
pub record HasEntered (old : Boarded) (pass : Holding) (event : Event) (new : Boarded) : Type 0 where
  pub said : List ℕ
  pub state : PassState
  pub is : IsSaidOf old.start old.order (record { history = old.history; state = standing_of pass }) event said
      (record { history = new.history; state = state })

abbrev pub IsCutShort : Boarded → Holding → Event → Boarded → Type 0
IsCutShort old pass event new = (new.history ≡ old.history) ⊎ HasEntered old pass event new

-- the line of an event is added to a text
pub record AddsLine (old : Boarded) (passes : List Holding) (event : Event)
    (new : Boarded) (after : List Holding) (before text : List ℕ) : Type 0 where
  pub line : List ℕ
  pub is : IsStep old.start old.order (replaying_of old.history passes) event line (replaying_of new.history after)
  pub added : text ≡ before ++ line

pub record HasStepped (old : Boarded) (passes : List Holding) (event : Event) (new : Boarded) : Type 0 where
  pub line : List ℕ
  pub after : List PassState
  pub is : IsStep old.start old.order (replaying_of old.history passes) event line (record { history = new.history; passes = after })

abbrev pub IsCutOff : Boarded → List Holding → Event → Boarded → Type 0
IsCutOff old passes event new = (new.history ≡ old.history) ⊎ HasStepped old passes event new

-- the passes of a replay
pub record ArePasses (board : Boarded) (passes : List Holding) : Type 0 where
  pub long : length passes ≡ PASSES
  pub sound : All (IsSound board) passes
  pub replayable : IsReplayable board

-- the passes before the first event
pub record AreFresh (board : Boarded) (passes : List Holding) : Type 0 where
  pub long : length passes ≡ PASSES
  pub each : All (λ pass. (pass.version ≡ board.version) × (pass.building ≡ None)) passes
  pub version : IsVersionAt board.start board.order board.history (published_prefix board.history) board.version
