-- How `ask` ends: what it heard of a server, and what it put on the output.
use Rattle.std.specs.Prelude.{◌≡◌, ◌⊎◌, ℕ, List, None, Option, Result}
use Rattle.std.specs.Io.KnownBytes.{Appends}
use Rattle.wire.specs.Causes.{Rose}
use Rattle.wire.specs.Contents.{PutsPrefix}
use Rattle.query_proto.specs.declared.requests.Request.{Request}
use Rattle.path_client.specs.declared.fault.ClientFault.{ClientFault}
use Rattle.path_client.specs.declared.heard.Heard.{Heard}
use Rattle.path_commands.specs.declared.status.Status.{Status}
use Rattle.path_commands.specs.declared.status.Status.TheVariants as status
use Rattle.path_commands.specs.Asks.{CallsInVain, CallsOnce, HearsNoText, HearsText, RunHouse}
use Rattle.path_commands.specs.SaidRequests.{Said, said_of}
use Rattle.path_commands.specs.Statuses.{status_text}

-- nothing was asked of the house
pub record IsUncalled {D C : Type 0} (house : RunHouse D C) : Type 0 where
  pub called : house.after.called ≡ None
  pub same : house.after ≡ house.before

-- the house was called once, at the port, and the request that says this was asked over the link, which was
-- hung up then; or nobody answered
pub record CallsServer {D C : Type 0} (house : RunHouse D C) (port : ℕ) (said : Said) : Type 0 where
  pub request : Request
  pub says : said_of request ≡ said
  pub calls : CallsInVain house port ⊎ ((result : Result Heard ClientFault) × CallsOnce house port request result)

-- the text tells the answer of the server
pub record IsAnswered {D C : Type 0} (house : RunHouse D C) (port : ℕ) (said : Said) (text : List ℕ) : Type 0 where
  pub request : Request
  pub says : said_of request ≡ said
  pub hears : HearsText house port request text

-- no answer of the server was heard
pub record IsUnanswered {D C : Type 0} (house : RunHouse D C) (port : ℕ) (said : Said) (cause : Status) : Type 0 where
  pub request : Request
  pub says : said_of request ≡ said
  pub fails : HearsNoText house port request cause

-- the cause of each status other than `Done`; `NoMemory` needs none
abbrev pub IsAskCause : {D C : Type 0} → RunHouse D C → ℕ → Said → Status → Type 0
IsAskCause house port said status.ReadFault = IsUnanswered house port said status.ReadFault
IsAskCause house port said status.WriteFault = IsUnanswered house port said status.WriteFault
IsAskCause house port said status.BadAnswer = IsUnanswered house port said status.BadAnswer
IsAskCause house port said status.NoMemory = Unit {0}
IsAskCause house port said _ = ⊥

-- the status and the text are right: the answer, or a status that has its cause, with its line
abbrev pub IsAskRight : {D C : Type 0} → RunHouse D C → ℕ → Said → Status → List ℕ → Type 0
IsAskRight house port said status.Done text = IsAnswered house port said text
IsAskRight house port said status.WriteFault text = ⊥
IsAskRight house port said status text = IsAskCause house port said status × (text ≡ status_text status)

-- the output grew by the whole text that is right with this status
pub record PutsHeard {D C : Type 0} (house : RunHouse D C) (port : ℕ) (said : Said) (ended : Status)
    (old new : Option (List ℕ)) : Type 0 where
  pub text : List ℕ
  pub right : IsAskRight house port said ended text
  pub put : Appends old new text

-- the output grew by a first part, less than the whole, of a text that is right with some status
pub record BreaksOffHeard {D C : Type 0} (house : RunHouse D C) (port : ℕ) (said : Said)
    (old new : Option (List ℕ)) : Type 0 where
  pub ended : Status
  pub text : List ℕ
  pub right : IsAskRight house port said ended text
  pub put : PutsPrefix old new text

-- the link took less than the whole request, and nothing was put
pub record SendsShort {D C : Type 0} (house : RunHouse D C) (port : ℕ) (said : Said)
    (old new : Option (List ℕ)) : Type 0 where
  pub unanswered : IsUnanswered house port said status.WriteFault
  pub silent : new ≡ old

-- A WRITE FAILED: of the output, whose count rose, and the line breaks off; or of the link, which took less than the
-- request, and then nothing was put
abbrev pub FallsShort : {D C : Type 0} → RunHouse D C → ℕ → Said → ℕ → ℕ → Option (List ℕ) → Option (List ℕ) → Type 0
FallsShort house port said before after old new =
    (Rose before after × BreaksOffHeard house port said old new) ⊎ SendsShort house port said old new
