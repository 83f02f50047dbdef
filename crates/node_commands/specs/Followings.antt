-- A board that is followed over a link, what is put of it, and the session that is held on it.
use Rattle.std.specs.Prelude.{◌≡◌, ◌≢◌, ◌⊎◌, ℕ, List, ◌++◌, codes, Err, Ok, Option, Result, Some}
use Rattle.std.specs.Fmt.{decimal}
use Rattle.std.specs.Io.KnownBytes.{Appends}
use Rattle.wire.specs.Causes.{Rose}
use Rattle.path_core.specs.Boards.{Boarded}
use Rattle.path_core.specs.Histories.{accepted_count, published_prefix, IsVersionAt}
use Rattle.follow_node.specs.declared.faults.FollowFault.TheVariants as fault
use Rattle.follow_node.specs.declared.links.LinkFault.{LinkFault}
use Rattle.follow_node.specs.declared.links.LinkFault.TheVariants as link
use Rattle.follow_node.specs.Following.{followed_of}
use Rattle.follow_node.specs.Links.{FollowsLink}
use Rattle.follow_node.specs.Streams.{Following, new_following}
use Rattle.path_commands.specs.declared.status.Status.{Status}
use Rattle.path_commands.specs.declared.status.Status.TheVariants as status
use Rattle.path_commands.specs.Asks.{CallsInVain, CallsOver, RunHouse}
use Rattle.path_commands.specs.Serving.{FailsToBegin, PutsCause}
use Rattle.path_commands.specs.Talks.{HoldsSession, IsUnheard, RunInput}
use Rattle.path_commands.specs.Texts.{line}
use Rattle.path_commands.specs.declared.request.FollowAsked.{FollowAsked}

-- the line that tells how many edits were accepted
abbrev pub following_text : ℕ → List ℕ
following_text accepted = line (codes "following " ++ decimal accepted)

-- ---- over the link

-- The house was called at the port. Over the link that it gave a new follower took the map and then messages in this
-- many rounds, with this result, and then that link was hung up.
abbrev pub CallsLeader : {D C : Type 0} → RunHouse D C → FollowAsked → Result (Unit {0}) LinkFault → Following → Type 0
CallsLeader house asked result follower = CallsOver house asked.port
    (λ begun then. FollowsLink asked.rounds (new_following asked.order) begun result follower then)

-- the status with which a run ends where a link was followed no further
abbrev pub status_followed : LinkFault → Status
status_followed (link.Follow (fault.Bad at)) = status.BadAnswer
status_followed (link.Follow (fault.Ahead accepted)) = status.BadAnswer
status_followed (link.Follow fault.LeaderMemory) = status.LeaderMemory
status_followed (link.Follow fault.NoMemory) = status.NoMemory
status_followed (link.Closed have) = status.BadAnswer
status_followed link.ReadFault = status.ReadFault
status_followed link.WriteFault = status.WriteFault

-- a fault of the link has its cause in the house's count of its direction
abbrev pub HasHouseCause : {D C : Type 0} → RunHouse D C → LinkFault → Type 0
HasHouseCause house link.ReadFault = Rose house.before.read_faults house.after.read_faults
HasHouseCause house link.WriteFault = Rose house.before.write_faults house.after.write_faults
HasHouseCause house (link.Follow why) = Unit {0}
HasHouseCause house (link.Closed have) = Unit {0}

-- nobody answered at the port
pub record FindsNobody {D C : Type 0} (house : RunHouse D C) (asked : FollowAsked) (cause : Status) : Type 0 where
  pub is : cause ≡ status.ReadFault
  pub vain : CallsInVain house asked.port
  pub rose : Rose house.before.read_faults house.after.read_faults

-- the link was followed no further, for that reason
pub record LosesLeader {D C : Type 0} (house : RunHouse D C) (asked : FollowAsked) (cause : Status) : Type 0 where
  pub why : LinkFault
  pub is : cause ≡ status_followed why
  pub follower : Following
  pub calls : CallsLeader house asked (Err why) follower
  pub rose : HasHouseCause house why

-- why no board is followed
abbrev pub IsFollowCause : {D C : Type 0} → RunHouse D C → FollowAsked → Status → Type 0
IsFollowCause house asked cause = FindsNobody house asked cause ⊎ LosesLeader house asked cause

-- A BOARD WAS FOLLOWED: it is that of a new follower that took the map and then a message in each round, and the version that
-- it has is the published one.
pub record FollowsBoard {D C : Type 0} (house : RunHouse D C) (asked : FollowAsked) (board : Boarded) : Type 0 where
  pub follower : Following
  pub calls : CallsLeader house asked (Ok tt) follower
  pub board_is : follower.board ≡ Some (followed_of board)
  pub version : IsVersionAt board.start board.order board.history (published_prefix board.history) board.version

-- ---- what is put, and the session

-- the link failed to send, and nothing was put
pub record IsSilent (before after : Option (List ℕ)) (cause ended : Status) : Type 0 where
  pub cause_is : cause ≡ status.WriteFault
  pub is : ended ≡ status.WriteFault
  pub silent : after ≡ before

-- there is another cause, and its line was printed, or that of `NoMemory`
pub record TellsLine (before after : Option (List ℕ)) (cause ended : Status) : Type 0 where
  pub other : cause ≢ status.WriteFault
  pub put : PutsCause before after cause ended

-- either of the two
abbrev pub TellsCause : Option (List ℕ) → Option (List ℕ) → Status → Status → Type 0
TellsCause before after cause ended = IsSilent before after cause ended ⊎ TellsLine before after cause ended

-- no board was followed: the line of the cause was put, and nothing was taken of the input and nothing sent on it
pub record FollowsNone {D C : Type 0} (house : RunHouse D C) (asked : FollowAsked) (input : RunInput)
    (before after : Option (List ℕ)) (ended : Status) : Type 0 where
  pub cause : Status
  pub is : IsFollowCause house asked cause
  pub unheard : IsUnheard input
  pub put : TellsCause before after cause ended

-- how many edits a board has was put and no more, and a session was held over the input on this board
pub record HoldsTold (board : Boarded) (input : RunInput) (before after : Option (List ℕ)) (ended : Status) : Type 0 where
  pub put : Appends before after (following_text (accepted_count board.history))
  pub session : HoldsSession board input ended

-- That was not put: nothing was taken of the input and nothing sent on it.
pub record FailsToTell (board : Boarded) (input : RunInput) (before after : Option (List ℕ)) (ended : Status) : Type 0 where
  pub put : FailsToBegin before after (following_text (accepted_count board.history)) ended
  pub unheard : IsUnheard input

-- either of the two
abbrev pub EndsOn : Boarded → RunInput → Option (List ℕ) → Option (List ℕ) → Status → Type 0
EndsOn board input before after ended =
    HoldsTold board input before after ended ⊎ FailsToTell board input before after ended

-- a board was followed, and told and held or not
pub record FollowsOne {D C : Type 0} (house : RunHouse D C) (asked : FollowAsked) (input : RunInput)
    (before after : Option (List ℕ)) (ended : Status) : Type 0 where
  pub board : Boarded
  pub followed : FollowsBoard house asked board
  pub ends : EndsOn board input before after ended

-- HOW THE COMMAND ENDS
abbrev pub Follows : {D C : Type 0} → RunHouse D C → FollowAsked → RunInput → Option (List ℕ) → Option (List ℕ)
    → Status → Type 0
Follows house asked input before after ended =
    FollowsOne house asked input before after ended ⊎ FollowsNone house asked input before after ended

-- ---- the statuses, each by its cause

-- a read failed: of the house, or of the input in the session
abbrev pub ReadFails : {D C : Type 0} → RunHouse D C → RunInput → Type 0
ReadFails house input =
    Rose house.before.read_faults house.after.read_faults ⊎ Rose input.before.read_faults input.after.read_faults

-- a write failed: of the output, by these counts, of the house, or of the input in the session
abbrev pub WriteFails : {D C : Type 0} → ℕ → ℕ → RunHouse D C → RunInput → Type 0
WriteFails before after house input = Rose before after
    ⊎ (Rose house.before.write_faults house.after.write_faults ⊎ Rose input.before.write_faults input.after.write_faults)

-- what came over the link may not come there, says that the leader has fewer edits, or ended before it was whole
abbrev pub IsBadFeed : LinkFault → Type 0
IsBadFeed (link.Follow (fault.Bad at)) = Unit {0}
IsBadFeed (link.Follow (fault.Ahead accepted)) = Unit {0}
IsBadFeed (link.Closed have) = Unit {0}
IsBadFeed _ = ⊥

-- it says that the leader had no memory
abbrev pub IsLeaderMemory : LinkFault → Type 0
IsLeaderMemory why = why ≡ link.Follow fault.LeaderMemory

-- the run ended before its session, by what was taken of the link that was hung up, for such a reason
pub record EndsByLink {D C : Type 0} (house : RunHouse D C) (asked : FollowAsked) (input : RunInput)
    (such : LinkFault → Type 0) : Type 0 where
  pub why : LinkFault
  pub is : such why
  pub follower : Following
  pub calls : CallsLeader house asked (Err why) follower
  pub unheard : IsUnheard input
