-- How the sets of a source are joined along its row, target by target. Inside the crate.
use Rattle.std.specs.Prelude.{◌≡◌, ◌≢◌, ℕ, ◌+◌, ◌<◌, ◌≤◌, ◌↔◌, List, length, slice_index}
use Rattle.run_pack.specs.declared.Run.{Run}
use Rattle.run_pack.specs.Runs.{start_at, move_at}
use Rattle.run_pack.specs.Sets.{Has, IsCommon, IsLeastCommon}
use Rattle.row_store.specs.Rows.{row_at}
use Rattle.row_check.specs.declared.cursors.Cursor.{Cursor}
use Rattle.row_check.specs.Following.{cursor_of, HasRun, IsOver}
use Rattle.row_check.specs.Faults.{IsLooseAt}

-- a run has the least of its common moves, and its common moves end before the next run
pub record IsEnded (row : List Run) (sets : List ℕ) (k : ℕ) : Type 0 where
  pub least : IsLeastCommon sets (start_at row k) (start_at row (k + 1)) (move_at row k)
  pub maximal : (move : ℕ) → IsCommon sets (start_at row k) (start_at row (k + 1) + 1) move → ⊥

-- the runs before run `run` are ended, and what its sets have in common before place `upto` is known
pub record IsJoined (row : List Run) (sets : List ℕ) (upto run common : ℕ) : Type 0 where
  pub ended : (k : ℕ) → k < run → IsEnded row sets k
  pub shared : (move : ℕ) → move < 8
      → Has common move ↔ ((place : ℕ) → start_at row run ≤ place → place < upto → Has (slice_index sets place) move)

-- the same where the cursor has gone on to the run that covers the target: where that run starts at the target, it is
-- of the run before that the common moves are known
pub record IsJoinedBefore (row : List Run) (sets : List ℕ) (target : ℕ) (cursor : Cursor) (common : ℕ) : Type 0 where
  pub going : (0 < target → cursor.start ≢ target) → IsJoined row sets target cursor.run common
  pub starting : 0 < target → cursor.start ≡ target
      → (k : ℕ) × (cursor.run ≡ k + 1) × IsJoined row sets target k common

-- the set of the target, in sets that are joined before it
pub record IsNextSet (row : List Run) (places target : ℕ) (cursor : Cursor) (common set : ℕ) (sets : List ℕ) : Type 0 where
  pub size : length sets ≡ places
  pub before : IsJoinedBefore row sets target cursor common
  pub is : slice_index sets target ≡ set

-- whatever the sets before were: the target's set is joined with them, and the run before is ended if one starts there
abbrev pub IsAdded : List Run → ℕ → ℕ → Cursor → ℕ → ℕ → ℕ → Type 0
IsAdded row places target cursor common set now =
    (sets : List ℕ) → IsNextSet row places target cursor common set sets
    → IsJoined row sets (target + 1) cursor.run now
    × ((k : ℕ) → k + 1 < length row → start_at row (k + 1) ≡ target → IsEnded row sets k)

-- and the row is not loose there
abbrev pub IsTaken : List Run → ℕ → ℕ → Cursor → ℕ → ℕ → ℕ → Type 0
IsTaken row places target cursor common set now =
    (sets : List ℕ) → IsNextSet row places target cursor common set sets
    → IsJoined row sets (target + 1) cursor.run now × (IsLooseAt row sets target → ⊥)

-- or the row is loose there
abbrev pub IsFoundLoose : List Run → ℕ → ℕ → Cursor → ℕ → ℕ → Type 0
IsFoundLoose row places target cursor common set =
    (sets : List ℕ) → IsNextSet row places target cursor common set sets → IsLooseAt row sets target

-- each source has a run that covers the target
pub record AreAllOver (rows : List (List Run)) (cursors : List Cursor) (target : ℕ) : Type 0 where
  pub has : (source : ℕ) → source < length cursors → HasRun (row_at rows source) (length cursors) (cursor_of cursors source)
  pub over : (source : ℕ) → source < length cursors → IsOver (cursor_of cursors source) target

-- the target's sets of the sources before `upto` are taken, and the others are as before
pub record AreTaken (rows : List (List Run)) (cursors : List Cursor) (target : ℕ) (before sets now : List ℕ) (upto : ℕ) : Type 0 where
  pub whole : length now ≡ length before
  pub each : (source : ℕ) → source < upto
      → IsTaken (row_at rows source) (length cursors) target (cursor_of cursors source) (slice_index before source)
      (slice_index sets source) (slice_index now source)
  pub rest : (source : ℕ) → upto ≤ source → slice_index now source ≡ slice_index before source

-- the first source whose row is loose at the target
pub record IsFirstFoundLoose (rows : List (List Run)) (cursors : List Cursor) (target : ℕ) (before sets : List ℕ) (source : ℕ) : Type 0 where
  pub within : source < length cursors
  pub loose : IsFoundLoose (row_at rows source) (length cursors) target (cursor_of cursors source) (slice_index before source)
      (slice_index sets source)
  pub earlier : (other : ℕ) → other < source → (now : ℕ)
      × IsTaken (row_at rows other) (length cursors) target (cursor_of cursors other) (slice_index before other)
      (slice_index sets other) now
