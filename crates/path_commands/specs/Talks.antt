-- The session that `talk` holds, and how it ends.
use Rattle.std.specs.Prelude.{◌≡◌, ◌⊎◌, ℕ, Err, None, Ok, Result}
use Rattle.wire.specs.Talks.{AtLink, ReadFails, WriteFails}
use Rattle.moves.specs.Maps.{Map}
use Rattle.cell_order.specs.declared.OrderKind.{OrderKind}
use Rattle.versions.specs.Databases.{Versioned}
use Rattle.path_core.specs.Boards.{Boarded, new_board}
use Rattle.path_core.specs.Histories.{IsLegal}
use Rattle.session.specs.declared.sessions.Ended.{Ended}
use Rattle.session.specs.declared.sessions.SessionFault.{SessionFault}
use Rattle.session.specs.declared.sessions.SessionFault.TheVariants as fault
use Rattle.session.specs.Conversations.{Conversed}
use Rattle.session.specs.Standing.{AddsOnlyOwn, Place, Standing, standing}
use Rattle.path_commands.specs.declared.status.Status.{Status}
use Rattle.path_commands.specs.declared.status.Status.TheVariants as status
use Rattle.path_commands.specs.Runs.{HoldsMap, IsFirstVersion, IsMapFileCause, RunFile}

-- the input of a run: what is known of it before the run and after it
pub record RunInput : Type 0 where
  pub before : AtLink
  pub after : AtLink

-- the input that was such before the run and such after it
abbrev pub input_over : AtLink → AtLink → RunInput
input_over before after = record { before = before; after = after }

-- nothing was taken of the input, nothing sent, and nothing failed
abbrev pub IsUnheard : RunInput → Type 0
IsUnheard input = input.after ≡ input.before

-- The board is the first of the map that a file holds: it has no entries, the first version of the map
-- in this order, and this room.
pub record IsFirstBoard (file : RunFile) (order : OrderKind) (room : ℕ) (board : Boarded) : Type 0 where
  pub map : Map
  pub holds : HoldsMap file map
  pub version : Versioned
  pub first : IsFirstVersion map order version
  pub is : board ≡ new_board map version room

-- where the one pass of a session stands, on a board of this map, in this order and with this room
abbrev pub place_for : Map → OrderKind → ℕ → Place
place_for map order room =
    record { pass = 0; start = map; order = order; room = room; shared = None }

-- a session was held over the input as the one pass of this board, and ended so; the history that
-- it leaves is legal, and all entries after those of the board are its own
pub record HoldsTalk (board : Boarded) (input : RunInput) (ended : Result Ended SessionFault) : Type 0 where
  pub last : Standing
  pub conversed : Conversed (place_for board.start board.order board.room)
      (standing board.history board.version None) input.before.talk ended last input.after.talk
  pub legal : IsLegal board.start last.seen
  pub own : AddsOnlyOwn 0 board.history last.seen

-- the input ended inside a frame, or a frame is too long
abbrev pub IsBroken : SessionFault → Type 0
IsBroken (fault.Torn have want) = Unit {0}
IsBroken (fault.TooLong size) = Unit {0}
IsBroken _ = ⊥

-- A session was held over the input as the one pass of this board, and the run ends so; a fault of the
-- input has its cause in the count of its direction.
abbrev pub HoldsSession : Boarded → RunInput → Status → Type 0
HoldsSession board input status.Done = (ended : Ended) × HoldsTalk board input (Ok ended)
HoldsSession board input (status.Broken why) = IsBroken why × HoldsTalk board input (Err why)
HoldsSession board input status.ReadFault =
    ReadFails input.before input.after × HoldsTalk board input (Err fault.ReadFault)
HoldsSession board input status.WriteFault =
    WriteFails input.before input.after × HoldsTalk board input (Err fault.WriteFault)
HoldsSession board input _ = ⊥

-- a session was held on the first board of the map in the file, and the run ends so
pub record EndsSession (file : RunFile) (order : OrderKind) (room : ℕ) (input : RunInput) (ended : Status) : Type 0 where
  pub board : Boarded
  pub first : IsFirstBoard file order room board
  pub held : HoldsSession board input ended

-- the file gives no board, and the session does not begin
pub record EndsBefore (file : RunFile) (input : RunInput) (ended : Status) : Type 0 where
  pub cause : IsMapFileCause file ended
  pub unheard : IsUnheard input

-- HOW `talk` ENDS, of which the map's file, the order and the room are told
abbrev pub TalkEnds : RunFile → OrderKind → ℕ → RunInput → Status → Type 0
TalkEnds file order room input ended = EndsBefore file input ended ⊎ EndsSession file order room input ended
