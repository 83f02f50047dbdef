-- What is put where no answer of a server was heard.
use Rattle.std.proofs.Common.{◌≡◌, ◌≢◌, ◌⊎◌, List, ℕ, Option, Result, Ok, Err, IfOk, IfErr, String, string_bytes, inl, inr, refl, sym, subst}
use Rattle.std.specs.Global.{Global}
use Rattle.std.specs.Io.KnownBytes.{Appends}
use Rattle.wire.specs.Contents.{PutsPrefix}
use Rattle.path_commands.specs.SaidRequests.{Said}
use Rattle.path_commands.specs.declared.status.Status.{Status}
use Rattle.path_commands.specs.declared.status.Status.TheVariants as status
use Rattle.path_commands.specs.Statuses.{status_text}
use Rattle.query_proto.specs.declared.requests.Request.{Request}
use Rattle.path_client.specs.declared.fault.ClientFault.{ClientFault}
use Rattle.path_client.specs.declared.fault.ClientFault.TheVariants as fault
use Rattle.path_client.specs.declared.heard.Heard.{Heard}
use Rattle.path_commands.specs.Asks.{CallsInVain, CallsOnce, HearsNoText, HearsText, RunHouse}
use Rattle.path_commands.specs.AskEnds.{BreaksOffHeard, IsAskCause, IsAskRight, PutsHeard}

-- whatever is heard, the house was called once or in vain
module _ {D C : Type 0} (house : RunHouse D C) (port : ℕ) (request : Request) where
  calls_unheard : (cause : Status) → HearsNoText house port request cause → CallsInVain house port ⊎ ((result : Result Heard ClientFault) × CallsOnce house port request result)
  calls_unheard status.BadAnswer h = inr (Err h.0, h.2)
  calls_unheard status.ReadFault h = elim (h.1) [ inl vain ↦ inl vain | inr once ↦ inr (Err fault.ReadFault, once) ]
  calls_unheard status.WriteFault h = inr (Err fault.WriteFault, h.1)
  calls_unheard status.NoMemory h = inr h
  calls_unheard _ h = absurd h

  pub calls_server : (answer : Result (String Global) Status) → IfOk answer (λ text. HearsText house port request (string_bytes text)) → IfErr answer (HearsNoText house port request)
      → CallsInVain house port ⊎ ((result : Result Heard ClientFault) × CallsOnce house port request result)
  calls_server (Ok text) heard unheard = inr (Ok heard.heard, heard.once)
  calls_server (Err cause) heard unheard = calls_unheard cause unheard

module _ {D C : Type 0} (house : RunHouse D C) (port : ℕ) (said : Said) where
  right_line : (cause : Status) → IsAskCause house port said cause → cause ≢ status.WriteFault → IsAskRight house port said cause (status_text cause)
  right_line status.Done is other = absurd is
  right_line status.Usage is other = absurd is
  right_line (status.Map fault) is other = absurd is
  right_line (status.Scen fault) is other = absurd is
  right_line (status.Query refusal) is other = absurd is
  right_line status.ReadFault is other = (is, refl)
  right_line status.WriteFault is other = absurd (other refl)
  right_line status.NoMemory is other = (tt, refl)
  right_line (status.TooLong limit) is other = absurd is
  right_line (status.Broken why) is other = absurd is
  right_line (status.Events line) is other = absurd is
  right_line (status.Db fault) is other = absurd is
  right_line status.LeaderMemory is other = absurd is
  right_line status.BadAnswer is other = (is, refl)

  -- the line of the cause is right, and so is that of want of memory
  right_told : (cause told : Status) → IsAskCause house port said cause → cause ≢ status.WriteFault → (told ≡ cause) ⊎ (told ≡ status.NoMemory)
      → IsAskRight house port said told (status_text told)
  right_told cause told is other (inl same) = subst (λ told. IsAskRight house port said told (status_text told)) (sym same) (right_line cause is other)
  right_told cause told is other (inr same) = subst (λ told. IsAskRight house port said told (status_text told)) (sym same) (tt, refl)

  pub puts_line : (cause told : Status) (old new : Option (List ℕ)) → IsAskCause house port said cause → cause ≢ status.WriteFault
      → (told ≡ cause) ⊎ (told ≡ status.NoMemory) → Appends old new (status_text told) → PutsHeard house port said told old new
  puts_line cause told old new is other which put = record { text = status_text told; right = right_told cause told is other which; put = put }

  pub breaks_line : (cause told : Status) (old new : Option (List ℕ)) → IsAskCause house port said cause → cause ≢ status.WriteFault
      → (told ≡ cause) ⊎ (told ≡ status.NoMemory) → PutsPrefix old new (status_text told) → BreaksOffHeard house port said old new
  breaks_line cause told old new is other which put = record { ended = told; text = status_text told; right = right_told cause told is other which; put = put }
