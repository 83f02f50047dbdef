-- One turn of a session.
use Rattle.std.proofs.Common.{◌≡◌, ◌+◌, ◌≤◌, ℕ, Bool, Err, List, [], ◌∷◌, ◌++◌, length, take, drop, None, Ok, Option, Result, Some, sym, subst, ap, ap₂, ◌∙◌, arith}
use Rattle.std.proofs.lemmas.List.{append_assoc, drop-drop, drop_all, length-drop, length-take-le, take-append-drop}
use Rattle.byteorder.specs.Endian.{big_bytes}
use Rattle.query_proto.specs.Frames.{limit_of, sent_request}
use Rattle.wire.specs.declared.faults.Failed.{Failed}
use Rattle.wire.specs.Talks.{Talk}
use Rattle.session.specs.declared.sessions.Ended.{Ended}
use Rattle.session.specs.declared.sessions.Ended.TheVariants as ended
use Rattle.session.specs.declared.sessions.SessionFault.{SessionFault}
use Rattle.session.specs.declared.sessions.SessionFault.TheVariants as fault
use Rattle.session.specs.Conversations.{Exchange, protocol_after}
use Rattle.session.specs.Standing.{Place}
use Rattle.session.specs.Turns.{Exchanges, HoldsFrame, HoldsMore, IsNext, LeavesSo, Point, Steps, StepsOver, StopsSo, TellsBack}

-- a frame behind its length, and what is behind it
frame_cut : (held : List ℕ) (size : ℕ) → take 2 held ≡ big_bytes 2 size → 2 + size ≤ length held
    → held ≡ sent_request (take size (drop 2 held)) ++ drop (2 + size) held
frame_cut held size is whole =
    let behind = length-drop 2 held in
    let long : length (take size (drop 2 held)) ≡ size = length-take-le size (drop 2 held) (omega arith) in
    let lead : take 2 held ≡ big_bytes 2 (length (take size (drop 2 held))) = is ∙ ap (big_bytes 2) (sym long) in
    let rest : drop 2 held ≡ take size (drop 2 held) ++ drop (2 + size) held =
    sym (take-append-drop size (drop 2 held)) ∙ ap (λ (l : List ℕ). take size (drop 2 held) ++ l) (drop-drop size 2 held) in
    sym (take-append-drop 2 held) ∙ ap₂ (λ (a b : List ℕ). a ++ b) lead rest
    ∙ sym (append_assoc (big_bytes 2 (length (take size (drop 2 held)))) (take size (drop 2 held)) (drop (2 + size) held))

module _ (place : Place) (ahead : Bool) (old : Point) (mid : Option Talk) (now : List ℕ) (size : ℕ) (p : HoldsMore old.talk mid old.held now)
    (f : HoldsFrame (limit_of old.proto) ahead now size) where
  frame_long : length (take size (drop 2 now)) ≡ size
  frame_long = let whole = f.whole in let behind = length-drop 2 now in length-take-le size (drop 2 now) (omega arith)

  cuts : (result : Result (Option Ended) Failed) (new : Point) (t : TellsBack place old.proto (take size (drop 2 now)) old.standing mid result new.standing new.talk)
      → new.held ≡ drop (2 + size) now → Exchanges place t.exchange old mid new
  cuts result new t e = record {
    serves = t.serves;
    fits = let long = ap (λ (l : List ℕ). length l) t.frame_is ∙ frame_long in let fits = f.fits in omega arith;
    more = p.more;
    takes = p.takes;
    cut = sym p.grown ∙ frame_cut now size f.size_is f.whole ∙ ap₂ (λ (frame left : List ℕ). sent_request frame ++ left) (sym t.frame_is) (sym e);
  }

  -- nothing is held behind a frame of one byte
  none_behind : (exchange : Exchange) (byte : ℕ) → exchange.frame ≡ take size (drop 2 now) → exchange.frame ≡ byte ∷ [] → drop (2 + size) now ≡ []
  none_behind exchange byte is one =
      let long : 1 ≡ size = sym (ap (λ (l : List ℕ). length l) one) ∙ ap (λ (l : List ℕ). length l) is ∙ frame_long in
      drop_all (2 + size) now (f.alone (sym long))

  over : (end : Option Ended) (new : Point) (t : TellsBack place old.proto (take size (drop 2 now)) old.standing mid (Ok end) new.standing new.talk)
      → new.proto ≡ protocol_after old.proto (take size (drop 2 now)) → new.held ≡ drop (2 + size) now → LeavesSo ahead (drop (2 + size) now) end
      → StepsOver place ahead old end new
  over end new t next e leaves = record {
    exchange = t.exchange;
    then = mid;
    exchanges = cuts (Ok end) new t e;
    proto_is = next ∙ ap (protocol_after old.proto) (sym t.frame_is);
    sent = t.sends.1;
    ends = t.sends.0;
    leaves = subst (λ left. LeavesSo ahead left end) (sym e) leaves;
  }

  steps_over : (end : Option Ended) (new : Point) → TellsBack place old.proto (take size (drop 2 now)) old.standing mid (Ok end) new.standing new.talk
      → new.proto ≡ protocol_after old.proto (take size (drop 2 now)) → new.held ≡ drop (2 + size) now → Steps place ahead old (Ok end) new
  steps_over None new t next e = over None new t next e (
    let most = f.most in let behind = length-drop (2 + size) now in omega arith,
    λ last. drop_all (2 + size) now (f.last last),
  )
  steps_over (Some ended.Bye) new t next e = over (Some ended.Bye) new t next e (none_behind t.exchange _ t.frame_is t.sends.0)
  steps_over (Some ended.Stop) new t next e = over (Some ended.Stop) new t next e (none_behind t.exchange _ t.frame_is t.sends.0.0)
  steps_over (Some ended.Quiet) new t next e = absurd t.sends.0
  steps_over (Some ended.Spent) new t next e = absurd t.sends.0

-- the same, as the code has them: the limit, the frame that was found, and its bytes
module _ (place : Place) (ahead : Bool) (old : Point) (mid : Option Talk) (now : List ℕ) (limit : ℕ) (found : Option ℕ) (size : ℕ) (frame : List ℕ)
    (limit_is : limit ≡ limit_of old.proto) (p : HoldsMore old.talk mid old.held now) (next : IsNext limit ahead now mid (Ok found)) (is : found ≡ Some size)
    (same : frame ≡ take size (drop 2 now)) where
  holds : HoldsFrame (limit_of old.proto) ahead now size
  holds = subst (λ n. HoldsFrame n ahead now size) limit_is (subst (λ o. IsNext limit ahead now mid (Ok o)) is next)

  told : (result : Result (Option Ended) Failed) (new : Point) → TellsBack place old.proto frame old.standing mid result new.standing new.talk
      → TellsBack place old.proto (take size (drop 2 now)) old.standing mid result new.standing new.talk
  told result new = subst (λ bytes. TellsBack place old.proto bytes old.standing mid result new.standing new.talk) same

  pub over_at : (end : Option Ended) (new : Point) → TellsBack place old.proto frame old.standing mid (Ok end) new.standing new.talk
      → new.proto ≡ protocol_after old.proto frame → new.held ≡ drop (2 + size) now → Steps place ahead old (Ok end) new
  over_at end new t e f =
      steps_over place ahead old mid now size p holds end new (told (Ok end) new t) (e ∙ ap (protocol_after old.proto) same) f

  pub unsent_at : (why : Failed) (new : Point) → TellsBack place old.proto frame old.standing mid (Err why) new.standing new.talk
      → new.held ≡ drop (2 + size) now → Steps place ahead old (Err fault.WriteFault) new
  unsent_at why new t e =
      let t = told (Err why) new t in
      record {
        exchange = t.exchange;
        then = mid;
        exchanges = cuts place ahead old mid now size p holds (Err why) new t e;
        unsent = t.sends;
        begun = let most = holds.most in let behind = length-drop (2 + size) now in let left = ap (λ (l : List ℕ). length l) e in omega arith;
      }

-- no frame came
pub steps_not : (place : Place) (ahead : Bool) (old new : Point) (why : SessionFault) → new.standing ≡ old.standing → HoldsMore old.talk new.talk old.held new.held
    → StopsSo (limit_of old.proto) new.held new.talk why → Steps place ahead old (Err why) new
steps_not place ahead old new (fault.Torn have want) same more stops = (record { same = same; more = more }, stops)
steps_not place ahead old new (fault.TooLong size) same more stops = (record { same = same; more = more }, stops)
steps_not place ahead old new fault.ReadFault same more stops = (record { same = same; more = more }, stops)
steps_not place ahead old new fault.WriteFault same more stops = absurd stops
