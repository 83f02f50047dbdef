-- What stands in the memory of a check before each target. Inside the crate.
use Rattle.std.specs.Prelude.{◌≡◌, ℕ, ◌+◌, ◌<◌, List, length, slice_index}
use Rattle.run_pack.specs.declared.Run.{Run}
use Rattle.moves.specs.declared.Cell.{Cell}
use Rattle.moves.specs.Maps.{Map}
use Rattle.moves.specs.ComponentLaws.{HasJust}
use Rattle.row_store.specs.Rows.{row_at}
use Rattle.row_check.specs.declared.cursors.Cursor.{Cursor}
use Rattle.row_check.specs.declared.scratch.Scratch.{Scratch}
use Rattle.row_check.specs.Faults.{AreWalkSets, IsClear}
use Rattle.row_check.specs.Marking.{AreNear}
use Rattle.row_check.specs.Following.{cursor_of, AreCursors, AreBehind}
use Rattle.row_check.specs.Joining.{IsJoined}

-- where moves lead, the cursors, and room for a key, a set and common moves of each place
pub record IsReady (cells : List Cell) (rows : List (List Run)) (scratch : Scratch) (target : ℕ) : Type 0 where
  pub near : AreNear cells scratch.near.items (length cells)
  pub cursors : AreCursors rows scratch.near.items scratch.cursors.items
  pub behind : AreBehind scratch.cursors.items target
  pub keys : length scratch.keys.items ≡ length cells + 1
  pub sets : length scratch.sets.items ≡ length cells
  pub commons : length scratch.common.items ≡ length cells

-- the sets of a source before place `upto`, and how they are joined
pub record HasSets (map : Map) (cells : List Cell) (rows : List (List Run)) (source upto run common : ℕ) : Type 0 where
  pub sets : List ℕ
  pub walk_sets : AreWalkSets map cells rows source upto sets
  pub joined : IsJoined (row_at rows source) sets upto run common

-- nothing is wrong with the targets before place `upto`, and the sets of all sources are joined before it
pub record IsChecked (map : Map) (cells : List Cell) (rows : List (List Run)) (cursors : List Cursor) (common : List ℕ) (upto : ℕ) : Type 0 where
  pub clear : (target : ℕ) → target < upto → IsClear map cells rows target
  pub joined : (source : ℕ) → source < length cells
      → HasSets map cells rows source upto (cursor_of cursors source).run (slice_index common source)

-- so it is on each map that has just these cells
abbrev pub IsCheckedAmong : List Cell → List (List Run) → Scratch → ℕ → Type 0
IsCheckedAmong cells rows scratch upto =
    (map : Map) → HasJust map cells → IsChecked map cells rows scratch.cursors.items scratch.common.items upto
