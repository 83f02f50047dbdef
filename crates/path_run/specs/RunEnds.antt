-- What a run does, by the kind of its command: what it put, read and asked, and what it left alone.
use Rattle.std.specs.Prelude.{◌≡◌, ◌≢◌, ◌⊎◌, ℕ, List, [], None, Option, Some}
use Rattle.wire.specs.Causes.{Rose}
use Rattle.wire.specs.declared.house.DoorsAsked.{DoorsAsked}
use Rattle.clap.specs.Walk.{Text}
use Rattle.path_commands.specs.declared.request.BuildOptions.{BuildOptions}
use Rattle.path_commands.specs.declared.request.FollowAsked.{FollowAsked}
use Rattle.path_commands.specs.declared.request.LeadAsked.{LeadAsked}
use Rattle.path_commands.specs.declared.status.Status.{Status}
use Rattle.path_commands.specs.declared.status.Status.TheVariants as status
use Rattle.path_commands.specs.AskEnds.{CallsServer, FallsShort, IsUncalled, PutsHeard}
use Rattle.path_commands.specs.Asks.{RunHouse}
use Rattle.path_commands.specs.Requests.{ask, follow, lead, request_of, serve, talk}
use Rattle.path_commands.specs.Runs.{Asks, IsRight, IsWordsCause, Run}
use Rattle.path_commands.specs.SaidRequests.{Said}
use Rattle.path_commands.specs.Serving.{FailsToRead, IsUnopened, Puts, PutsCause, RunEar, Serves}
use Rattle.path_commands.specs.Talks.{IsUnheard, RunInput, TalkEnds}
use Rattle.node_commands.specs.Followings.{EndsByLink, Follows, IsBadFeed, IsLeaderMemory, ReadFails, WriteFails}
use Rattle.node_commands.specs.Leadings.{Leads}

-- the output of a run: its bytes, where they are told, and how often it failed, before the run and after it
pub record RunOutput : Type 0 where
  pub before : Option (List ℕ)
  pub after : Option (List ℕ)
  pub faults_before : ℕ
  pub faults_after : ℕ

-- the output that was such before the run and such after it
abbrev pub output_over : {O : Type 0} → (O → Option (List ℕ)) → (O → ℕ) → O → O → RunOutput
output_over bytes faults old new =
    record { before = bytes old; after = bytes new; faults_before = faults old; faults_after = faults new }

-- a run that says that the output failed has seen it fail
abbrev pub FailsOnly : RunOutput → Status → Type 0
FailsOnly output ended = ended ≡ status.WriteFault → Rose output.faults_before output.faults_after

-- the words ask for nothing, and the line of that was put
pub record RefusesWords (words : List Text) (output : RunOutput) (ended : Status) : Type 0 where
  pub cause : Status
  pub is : IsWordsCause words cause
  pub put : PutsCause output.before output.after cause ended
  pub fault : FailsOnly output ended

-- ---- a printed command

-- The text that is right was put: the whole of it, or a first part where the output failed. The input, the house and
-- the ear are as they were.
pub record Prints {L H E : Type 0} (run : Run) (output : RunOutput) (input input_after : L) (house house_after : H)
    (ear ear_after : E) (ended : Status) : Type 0 where
  pub told : Status
  pub text : List ℕ
  pub right : IsRight run told text
  pub put : Puts output.before output.after text told ended
  pub fault : FailsOnly output ended
  pub unheard : input_after ≡ input
  pub still : house_after ≡ house
  pub deaf : ear_after ≡ ear

-- ---- `talk`

-- the words ask for a session, and it ended so
pub record HasTalked (run : Run) (input : RunInput) (ended : Status) : Type 0 where
  pub name : Text
  pub room : ℕ
  pub build : BuildOptions
  pub asks : Asks run (talk name room build)
  pub ends : TalkEnds (run.file name) build.order room input ended

-- the words ask for nothing, and nothing was taken of the input or sent
pub record HasNotTalked (run : Run) (input : RunInput) (ended : Status) : Type 0 where
  pub cause : IsWordsCause run.words ended
  pub unheard : IsUnheard input

-- One of both. The output, the house and the ear are as they were.
pub record Talks {O H E : Type 0} (run : Run) (input : RunInput) (out out_after : O) (house house_after : H)
    (ear ear_after : E) (ended : Status) : Type 0 where
  pub ends : HasTalked run input ended ⊎ HasNotTalked run input ended
  pub silent : out_after ≡ out
  pub still : house_after ≡ house
  pub deaf : ear_after ≡ ear

-- ---- `serve`

-- the words ask for sessions at doors, and these ended so; a status that speaks of a failed read or write has that cause
pub record HasServed {D C : Type 0} (run : Run) (house : RunHouse D C) (ear : RunEar)
    (output : RunOutput) (ended : Status) : Type 0 where
  pub name : Text
  pub asked : DoorsAsked
  pub room : ℕ
  pub build : BuildOptions
  pub asks : Asks run (serve name asked room build)
  pub ends : Serves (run.file name) build.order room asked house ear output.before output.after ended
  pub reads : ended ≡ status.ReadFault → FailsToRead (run.file name) house
  pub writes : FailsOnly output ended

-- the words ask for nothing, and no doors were asked for
pub record HasNotServed {D C : Type 0} (run : Run) (house : RunHouse D C) (ear : RunEar)
    (output : RunOutput) (ended : Status) : Type 0 where
  pub refused : RefusesWords run.words output ended
  pub unopened : IsUnopened house ear

-- no port was called, and no link was read or written
pub record CallsNobody {D C : Type 0} (house : RunHouse D C) : Type 0 where
  pub called : house.after.called ≡ None
  pub reads : house.after.read_faults ≡ house.before.read_faults
  pub writes : house.after.write_faults ≡ house.before.write_faults

-- One of both. The input is as it was, and nobody was called.
pub record ServesSessions {L D C : Type 0} (run : Run) (house : RunHouse D C)
    (ear : RunEar) (output : RunOutput) (input input_after : L) (ended : Status)
    : Type 0 where
  pub ends : HasServed run house ear output ended ⊎ HasNotServed run house ear output ended
  pub uncalled : CallsNobody house
  pub unheard : input_after ≡ input

-- ---- `ask`

-- the words ask a server, which was called once, and its answer was put
pub record HasAsked {D C : Type 0} (words : List Text) (house : RunHouse D C) (output : RunOutput) (ended : Status)
    : Type 0 where
  pub port : ℕ
  pub said : Said
  pub asks : request_of words ≡ Some (ask port said)
  pub calls : CallsServer house port said
  pub heard : ended ≢ status.WriteFault → PutsHeard house port said ended output.before output.after
  pub short : ended ≡ status.WriteFault → FallsShort house port said output.faults_before output.faults_after
      output.before output.after

-- the words ask for nothing, and nobody was called
pub record HasNotAsked {D C : Type 0} (words : List Text) (house : RunHouse D C) (output : RunOutput) (ended : Status)
    : Type 0 where
  pub refused : RefusesWords words output ended
  pub uncalled : IsUncalled house

-- no doors were asked for, and none failed
pub record OpensNoDoors {D C : Type 0} (house : RunHouse D C) : Type 0 where
  pub none : house.after.asked ≡ []
  pub quiet : house.after.door_faults ≡ house.before.door_faults

-- One of both. The files, the input and the ear are as they were, and no doors were asked for.
pub record AsksServer {F L E D C : Type 0} (words : List Text) (house : RunHouse D C) (output : RunOutput)
    (files files_after : F) (input input_after : L) (ear ear_after : E) (ended : Status) : Type 0 where
  pub ends : HasAsked words house output ended ⊎ HasNotAsked words house output ended
  pub unopened : OpensNoDoors house
  pub unread : files_after ≡ files
  pub unheard : input_after ≡ input
  pub deaf : ear_after ≡ ear

-- ---- `lead`

-- the words ask for sessions and a feed at doors, and these ended so; a status that speaks of a failed read or write has
-- that cause
pub record HasLed {D C : Type 0} (run : Run) (house : RunHouse D C) (ear : RunEar)
    (output : RunOutput) (ended : Status) : Type 0 where
  pub asked : LeadAsked
  pub asks : Asks run (lead asked.map.now asked.doors asked.feed asked.room asked.build)
  pub ends : Leads asked (run.file asked.map.now) house ear output.before output.after ended
  pub reads : ended ≡ status.ReadFault → FailsToRead (run.file asked.map.now) house
  pub writes : FailsOnly output ended

-- That, or the words ask for nothing, and no doors were asked for. The input is as it was, and nobody was called.
pub record LeadsSessions {L D C : Type 0} (run : Run) (house : RunHouse D C)
    (ear : RunEar) (output : RunOutput) (input input_after : L) (ended : Status)
    : Type 0 where
  pub ends : HasLed run house ear output ended ⊎ HasNotServed run house ear output ended
  pub uncalled : CallsNobody house
  pub unheard : input_after ≡ input

-- ---- `follow`

-- the words ask for a board that follows a leader, which was called once, and for a session on it; each of these
-- statuses comes for its cause alone
pub record HasFollowed {D C : Type 0} (words : List Text) (house : RunHouse D C) (input : RunInput) (output : RunOutput)
    (ended : Status) : Type 0 where
  pub asked : FollowAsked
  pub asks : request_of words ≡ Some (follow asked.port asked.rounds asked.order)
  pub called : house.after.called ≡ Some asked.port
  pub ends : Follows house asked input output.before output.after ended
  pub reads : ended ≡ status.ReadFault → ReadFails house input
  pub writes : ended ≡ status.WriteFault → WriteFails output.faults_before output.faults_after house input
  pub bad : ended ≡ status.BadAnswer → EndsByLink house asked input IsBadFeed
  pub memory : ended ≡ status.LeaderMemory → EndsByLink house asked input IsLeaderMemory

-- the words ask for nothing, nobody was called, and nothing was taken of the input or sent
pub record HasNotFollowed {D C : Type 0} (words : List Text) (house : RunHouse D C) (input : RunInput)
    (output : RunOutput) (ended : Status) : Type 0 where
  pub refused : RefusesWords words output ended
  pub uncalled : IsUncalled house
  pub unheard : IsUnheard input

-- One of both. The files and the ear are as they were, and no doors were asked for.
pub record FollowsLeader {F E D C : Type 0} (words : List Text) (house : RunHouse D C) (input : RunInput)
    (output : RunOutput) (files files_after : F)
    (ear ear_after : E) (ended : Status) : Type 0 where
  pub ends : HasFollowed words house input output ended ⊎ HasNotFollowed words house input output ended
  pub unopened : OpensNoDoors house
  pub unread : files_after ≡ files
  pub deaf : ear_after ≡ ear
