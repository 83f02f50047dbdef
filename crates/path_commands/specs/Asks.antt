-- One request to a server, over the one call of a house.
use Rattle.std.specs.Prelude.{◌≡◌, ◌⊎◌, ℕ, List, IfSome, Ok, Err, Option, Some, Result}
use Rattle.wire.specs.Causes.{Rose}
use Rattle.wire.specs.Houses.{AtHouse, Lendings, TellsTalk, no_lendings, with_link_back, with_link_given}
use Rattle.wire.specs.Knocks.{AtDoor}
use Rattle.wire.specs.Talks.{AtLink, IsUnused, Talk}
use Rattle.query_proto.specs.declared.requests.Request.{Request}
use Rattle.path_client.specs.declared.fault.ClientFault.{ClientFault}
use Rattle.path_client.specs.declared.fault.ClientFault.TheVariants as fault
use Rattle.path_client.specs.declared.heard.Heard.{Heard}
use Rattle.path_client.specs.Asking.{Asked}
use Rattle.path_commands.specs.declared.status.Status.{Status}
use Rattle.path_commands.specs.declared.status.Status.TheVariants as status
use Rattle.path_commands.specs.HeardTexts.{TellsHeard}

-- The house of a run: what is known of its doors and of its links, and of itself before the run and
-- after it.
pub record RunHouse (D C : Type 0) : Type 0 where
  pub door : D → AtDoor
  pub link : C → AtLink
  pub before : AtHouse D C
  pub after : AtHouse D C

-- the house that was such before the run and such after it
abbrev pub house_over : {D C : Type 0} → (D → AtDoor) → (C → AtLink) → AtHouse D C → AtHouse D C → RunHouse D C
house_over door link before after =
    record { door = door; link = link; before = before; after = after }

-- a house that tells its links gave none yet
abbrev pub HasGivenNone : {D C : Type 0} → Option (Lendings D C) → Type 0
HasGivenNone told = IfSome told (λ lent. lent ≡ no_lendings)

-- The house was called at the port. Over the link that it gave was this talk, told before it and after it, and then that link
-- was handed back, and no other.
pub record CallsOver {D C : Type 0} (house : RunHouse D C) (port : ℕ) (talks : Option Talk → Option Talk → Type 0) : Type 0 where
  pub called : house.after.called ≡ Some port
  pub begun : AtLink
  pub unused : IsUnused begun
  pub told : TellsTalk house.before.lent begun
  pub link : C
  pub talked : talks begun.talk (house.link link).talk
  pub back : house.after.lent ≡ with_link_back (with_link_given house.before.lent) (Some port) link

-- over it the request was asked, with this result
abbrev pub CallsOnce : {D C : Type 0} → RunHouse D C → ℕ → Request → Result Heard ClientFault → Type 0
CallsOnce house port request result = CallsOver house port (λ begun then. Asked request begun result then)

-- the house was called at the port, and nobody answered
pub record CallsInVain {D C : Type 0} (house : RunHouse D C) (port : ℕ) : Type 0 where
  pub called : house.after.called ≡ Some port
  pub kept : house.after.lent ≡ house.before.lent

-- an answer was heard, and the text tells it
pub record HearsText {D C : Type 0} (house : RunHouse D C) (port : ℕ) (request : Request) (text : List ℕ) : Type 0 where
  pub heard : Heard
  pub once : CallsOnce house port request (Ok heard)
  pub tells : TellsHeard heard.reply heard.moves text

-- what came in is not an answer, or ended before an answer was whole, or came of a server that does not know what was
-- asked
abbrev pub IsBad : ClientFault → Type 0
IsBad fault.Malformed = Unit {0}
IsBad (fault.Closed have) = Unit {0}
IsBad (fault.OldServer kind) = Unit {0}
IsBad _ = ⊥

-- why there is no text: each status other than `NoMemory` has its cause
abbrev pub HearsNoText : {D C : Type 0} → RunHouse D C → ℕ → Request → Status → Type 0
HearsNoText house port request status.BadAnswer =
    (why : ClientFault) × IsBad why × CallsOnce house port request (Err why)
HearsNoText house port request status.ReadFault = Rose house.before.read_faults house.after.read_faults
    × (CallsInVain house port ⊎ CallsOnce house port request (Err fault.ReadFault))
HearsNoText house port request status.WriteFault = Rose house.before.write_faults house.after.write_faults
    × CallsOnce house port request (Err fault.WriteFault)
HearsNoText house port request status.NoMemory =
    (result : Result Heard ClientFault) × CallsOnce house port request result
HearsNoText house port request _ = ⊥
