-- What was asked, by what was sent and what was heard.
use Rattle.std.proofs.Common.{◌≡◌, ℕ, List, [], take, Option, Some, None, Result, Ok, Err, IfOk, IfErr, refl, sym, subst, rules}
use Rattle.query_proto.specs.declared.requests.Request.{Request}
use Rattle.query_proto.specs.Frames.{request_bytes, sent_request}
use Rattle.wire.specs.Talks.{Talk, with_sent}
use Rattle.path_client.specs.declared.fault.ClientFault.{ClientFault}
use Rattle.path_client.specs.declared.fault.ClientFault.TheVariants.{WriteFault}
use Rattle.path_client.specs.declared.heard.Heard.{Heard}
use Rattle.path_client.specs.Taking.{Takes}
use Rattle.path_client.specs.Asking.{Exchanged, HearsFrom, HearsNothing, Passes, SendsRequest, SendsRequestPart}

-- bytes were taken after others were sent
then_taken : (before after : Option Talk) (taken sent : List ℕ) → Takes (with_sent before sent) after taken → Passes before after taken sent
then_taken (Some talk) after taken sent p = record { front = p.front; moved = p.moved }
then_taken None after taken sent p = record { front = search rules; moved = p.moved }

passed : (before between after : Option Talk) (taken sent : List ℕ) → between ≡ with_sent before sent → Takes between after taken
    → Passes before after taken sent
passed before between after taken sent e p = then_taken before after taken sent (subst (λ told. Takes told after taken) e p)

-- bytes were sent and none were taken
only_sent : (before : Option Talk) (sent : List ℕ) → Passes before (with_sent before sent) [] sent
only_sent (Some talk) sent = record { front = refl; moved = refl }
only_sent None sent = record { front = search rules; moved = refl }

-- a result has one error
err_of : {T E : Type 0} {error other : E} → ◌≡◌ {A = Result T E} (Err error) (Err other) → error ≡ other
err_of e = search rules

-- the request was sent, and then an answer heard or not
pub exchanged_all : (request : Request) (before between after : Option Talk) (result : Result Heard ClientFault)
    → SendsRequest request before between → IfOk result (λ heard. HearsFrom between after heard.reply heard.moves)
    → IfErr result (HearsNothing between after) → Exchanged request before result after
exchanged_all request before between after (Ok found) s h f = record {
  taken = h.taken;
  sent = sent_request (request_bytes request);
  passes = passed before between after h.taken (sent_request (request_bytes request)) s h.takes;
  whole = λ _. refl;
  part = search rules;
  heard = h.hears;
  fault = search rules;
}
exchanged_all request before between after (Err fault) s h f = record {
  taken = f.taken;
  sent = sent_request (request_bytes request);
  passes = passed before between after f.taken (sent_request (request_bytes request)) s f.takes;
  whole = λ _. refl;
  part = λ e. absurd (f.listens (err_of e));
  heard = search rules;
  fault = f.why;
}

-- less than the whole request was sent
pub exchanged_part : (request : Request) (before after : Option Talk) → SendsRequestPart request before after
    → Exchanged request before (Err WriteFault) after
exchanged_part request before after s =
    let sent : List ℕ = take s.0 (sent_request (request_bytes request)) in
    record {
      taken = [];
      sent = sent;
      passes = subst (λ told. Passes before told [] sent) (sym s.2) (only_sent before sent);
      whole = λ not. absurd (not refl);
      part = λ _. (s.0, s.1, refl);
      heard = search rules;
      fault = refl;
    }
