-- Walks by places: each place has a cursor, which says where its kept move leads. Inside the crate.
use Rattle.std.specs.Prelude.{◌≡◌, ◌≢◌, ℕ, zero, suc, ◌+◌, ◌-◌, ◌*◌, ◌%◌, ◌<◌, ◌≤◌, ◌⊎◌, List, length, slice_index, slice_index_or}
use Rattle.root_cost.specs.declared.TheConstants.{STRAIGHT_KEY, DIAGONAL_KEY, NO_KEY}
use Rattle.moves.specs.declared.TheConstants.{MAX_PASSABLE}
use Rattle.run_pack.specs.declared.Run.{Run}
use Rattle.run_pack.specs.Runs.{start_at, move_at, end_at, IsRow}
use Rattle.row_store.specs.Rows.{row_at}
use Rattle.row_check.specs.declared.cursors.Cursor.{Cursor}
use Rattle.row_check.specs.declared.cursors.TheConstants.{FAR, START}
use Rattle.row_check.specs.Marking.{edges_of}

-- the key of the step that the move with that number makes: the odd ones are diagonal
abbrev pub step_numbered : ℕ → ℕ
step_numbered number = STRAIGHT_KEY + (DIAGONAL_KEY - STRAIGHT_KEY) * (number % 2)

-- what stands past the end of a list of cursors
abbrev pub no_cursor : Cursor
no_cursor = record { run = 0; start = 0; end = 0; next = 0; step = 0 }

-- the cursor of a place
abbrev pub cursor_of : List Cursor → ℕ → Cursor
cursor_of cursors place = slice_index_or cursors place no_cursor

-- the cursor stands at a run of the row, and has where it starts and ends
pub record HasRun (row : List Run) (places : ℕ) (cursor : Cursor) : Type 0 where
  pub is_row : IsRow row places
  pub within : cursor.run < length row
  pub starts : cursor.start ≡ start_at row cursor.run
  pub ends : cursor.end ≡ end_at row places cursor.run

-- and it has where the move of the run leads, and what that costs
pub record IsCursor (row : List Run) (edges : List ℕ) (places : ℕ) (cursor : Cursor) : Type 0 where
  pub has : HasRun row places cursor
  pub leads : cursor.next ≡ slice_index edges (move_at row cursor.run)
  pub costs : cursor.step ≡ step_numbered (move_at row cursor.run)

-- so many cursors lead from a place to the target, which none of them leaves, and their steps and the key of the target
-- have that key together
abbrev pub Arrives : List Cursor → ℕ → ℕ → ℕ → ℕ → Type 0
Arrives cursors target from zero key = (from ≡ target) × (key ≡ START)
Arrives cursors target from (suc count) key =
    (from ≢ target) × ((cursor_of cursors from).next < length cursors) × (rest : ℕ)
    × (key ≡ rest + (cursor_of cursors from).step) × Arrives cursors target (cursor_of cursors from).next count rest

-- the key of what leads from a place to the target
pub record IsKeyOf (cursors : List Cursor) (target from key : ℕ) : Type 0 where
  pub count : ℕ
  pub arrives : Arrives cursors target from count key

-- cursors that can be followed: each leads to a place or nowhere, which is the number of places, by one step
pub record CanFollow (cursors : List Cursor) (target : ℕ) : Type 0 where
  pub few : length cursors ≤ MAX_PASSABLE
  pub inside : target < length cursors
  pub led : (place : ℕ) → place < length cursors → (cursor_of cursors place).next ≤ length cursors
  pub some : (place : ℕ) → place < length cursors → STRAIGHT_KEY ≤ (cursor_of cursors place).step
  pub most : (place : ℕ) → place < length cursors → (cursor_of cursors place).step ≤ DIAGONAL_KEY

-- a key for each place that is known, and one for nowhere
pub record AreKeys (cursors : List Cursor) (target : ℕ) (keys : List ℕ) : Type 0 where
  pub whole : length keys ≡ length cursors + 1
  pub start : slice_index keys target ≡ START
  pub last : slice_index keys (length cursors) ≡ FAR
  pub known : (place : ℕ) → place < length cursors
      → (slice_index keys place ≡ NO_KEY) ⊎ IsKeyOf cursors target place (slice_index keys place)

-- the key of that place is known, and what was known before is as it was
pub record AreKeysWith (cursors : List Cursor) (target from : ℕ) (before now : List ℕ) : Type 0 where
  pub keys : AreKeys cursors target now
  pub known : slice_index now from ≢ NO_KEY
  pub kept : (place : ℕ) → slice_index before place ≢ NO_KEY → slice_index now place ≡ slice_index before place

-- a key for each place, and one for nowhere
pub record AreAllKeys (cursors : List Cursor) (target : ℕ) (keys : List ℕ) : Type 0 where
  pub whole : length keys ≡ length cursors + 1
  pub last : slice_index keys (length cursors) ≡ FAR
  pub each : (place : ℕ) → place < length cursors → IsKeyOf cursors target place (slice_index keys place)

-- nothing leads from a place to the target
abbrev pub IsLost : List Cursor → ℕ → ℕ → Type 0
IsLost cursors target from = (key : ℕ) → IsKeyOf cursors target from key → ⊥

-- it is the first such place
pub record IsFirstLost (cursors : List Cursor) (target from : ℕ) : Type 0 where
  pub within : from < length cursors
  pub lost : IsLost cursors target from
  pub earlier : (other : ℕ) → other < from → (key : ℕ) × IsKeyOf cursors target other key

-- a row over all places for each place
pub record AreRowsOver (rows : List (List Run)) (places : ℕ) : Type 0 where
  pub few : places ≤ MAX_PASSABLE
  pub whole : length rows ≡ places
  pub each : (source : ℕ) → source < places → IsRow (row_at rows source) places

-- a cursor for each place, in its row
pub record AreCursors (rows : List (List Run)) (near : List (List ℕ)) (cursors : List Cursor) : Type 0 where
  pub whole : length cursors ≡ length near
  pub each : (source : ℕ) → source < length near
      → IsCursor (row_at rows source) (edges_of near source) (length near) (cursor_of cursors source)

-- the run of the cursor covers the target, or ends before it; it starts before the target, but for the first one
pub record IsBehind (cursor : Cursor) (target : ℕ) : Type 0 where
  pub from : cursor.start ≤ target
  pub before : 0 < target → cursor.start < target
  pub upto : target ≤ cursor.end

-- the run of the cursor covers the target
pub record IsOver (cursor : Cursor) (target : ℕ) : Type 0 where
  pub from : cursor.start ≤ target
  pub upto : target < cursor.end

-- a cursor whose run ends before the target has gone on to the next run
pub record HasGoneOn (old new : Cursor) (target : ℕ) : Type 0 where
  pub stays : old.end ≢ target → new ≡ old
  pub goes : old.end ≡ target → new.run ≡ old.run + 1

-- all cursors are behind the target
abbrev pub AreBehind : List Cursor → ℕ → Type 0
AreBehind cursors target = (source : ℕ) → source < length cursors → IsBehind (cursor_of cursors source) target

-- the cursors of the sources before `upto` have gone on to the target, and the others are as before
pub record HaveGoneOn (old new : List Cursor) (target upto : ℕ) : Type 0 where
  pub over : (source : ℕ) → source < upto → IsOver (cursor_of new source) target
  pub on : (source : ℕ) → source < upto → HasGoneOn (cursor_of old source) (cursor_of new source) target
  pub rest : (source : ℕ) → upto ≤ source → cursor_of new source ≡ cursor_of old source

-- the cursor of that source has gone on to the target, and the others are as before
pub record HasGoneOnAt (old new : List Cursor) (target source : ℕ) : Type 0 where
  pub over : IsOver (cursor_of new source) target
  pub on : HasGoneOn (cursor_of old source) (cursor_of new source) target
  pub rest : (other : ℕ) → other ≢ source → cursor_of new other ≡ cursor_of old other
