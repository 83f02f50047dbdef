-- Why a board refuses what it is given, as cases tried in order.
use Rattle.std.specs.Prelude.{◌≡◌, ℕ, ◌<◌, ◌≤◌, length}
use Rattle.edit_log.specs.declared.edit.Edit.{Edit}
use Rattle.edit_log.specs.Verdicts.{IsRefusal, MayBeAccepted}
use Rattle.path_core.specs.declared.error.SubmitError.{SubmitError}
use Rattle.path_core.specs.declared.error.SubmitError.TheVariants.{Refused, NoMemory}
use Rattle.path_core.specs.declared.error.PublishError.{PublishError}
use Rattle.path_core.specs.declared.error.PublishError.TheVariants.{Overtaken, NoMemory as NoMemoryFor}
use Rattle.path_core.specs.Boards.{Boarded}
use Rattle.path_core.specs.Histories.{accepted_count, map_now, published_prefix}

-- the board has used up its room, so another entry may need memory
abbrev pub IsRoomUsed : Boarded → Type 0
IsRoomUsed board = board.room ≤ length board.history

-- the edit may be accepted on the board's map
abbrev pub MayBeSubmitted : Boarded → Edit → Type 0
MayBeSubmitted board edit = MayBeAccepted (map_now board.start board.history) (accepted_count board.history) edit

-- why an edit is not entered
abbrev pub IsSubmitError : Boarded → Edit → SubmitError → Type 0
IsSubmitError board edit (Refused why) = IsRefusal (map_now board.start board.history) (accepted_count board.history) edit why
IsSubmitError board edit NoMemory = MayBeSubmitted board edit × IsRoomUsed board

-- why a version with that prefix is not published
abbrev pub IsPublishError : Boarded → ℕ → PublishError → Type 0
IsPublishError board prefix (Overtaken by) = (by ≡ published_prefix board.history) × (prefix ≤ by)
IsPublishError board prefix NoMemoryFor = (published_prefix board.history < prefix) × IsRoomUsed board
