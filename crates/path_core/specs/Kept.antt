-- What a board keeps besides its history, so that it is not computed again.
use Rattle.std.specs.Prelude.{◌≡◌, ◌↔◌, ℕ, ◌+◌, ◌≤◌, Bool, List, length, All, IsTrue}
use Rattle.moves.specs.Maps.{Map}
use Rattle.edit_log.specs.EditLists.{EditLog}
use Rattle.path_core.specs.declared.TheConstants.{MAX_ENTRIES}
use Rattle.path_core.specs.declared.kept_entry.KeptEntry.{KeptEntry}
use Rattle.path_core.specs.Boards.{Boarded}
use Rattle.path_core.specs.Histories.{edits_of, map_now, published_count, published_prefix, IsHalting, IsLegal, IsVersionAt}
use Rattle.path_core.specs.KeptEntries.{IsPlaced}

-- the current map, the accepted edits, the number of publications and whether a halt was entered fit the history
pub record IsKept (board : Boarded) (map : Map) (edits : EditLog) (kept : List KeptEntry)
    (published : ℕ) (halting : Bool) (capacity : ℕ) : Type 0 where
  pub legal : IsLegal board.start board.history
  pub version : IsVersionAt board.start board.order board.history (published_prefix board.history) board.version
  pub running : map ≡ map_now board.start board.history
  pub accepted : edits.edits ≡ edits_of board.history
  pub placed : All (IsPlaced (length edits.edits)) kept
  pub published_is : published ≡ published_count board.history
  pub halts : IsTrue halting ↔ IsHalting board.history
  pub few : board.room ≤ MAX_ENTRIES
  pub room_for_entries : board.room ≤ capacity
  pub room_for_edits : board.room ≤ length board.history + edits.spare
