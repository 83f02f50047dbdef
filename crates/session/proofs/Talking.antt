-- A talk over a link, turn by turn.
use Rattle.std.proofs.Common.{◌≡◌, ◌+◌, ◌<◌, ◌≤◌, ℕ, All, Bool, Err, IsFalse, List, [], ◌∷◌, ◌++◌, length, take, drop, None, Ok, Option, Result, Some, inl, nat_lt, refl, sym, subst, ap, ap₂, ◌∙◌, length-append, arith}
use Rattle.std.specs.Io.KnownBytes.{append_known}
use Rattle.std.proofs.Math.Seq.{take-add}
use Rattle.std.proofs.lemmas.Grind.{flat_map-append}
use Rattle.std.proofs.lemmas.List.{append-nil, append_assoc, drop-drop, take-append-drop, length-drop}
use Rattle.std.proofs.lemmas.List.Elements.{All-push}
use Rattle.std.proofs.lemmas.List.Sums.{fold_push}
use Rattle.query_proto.specs.declared.protocols.Proto.TheVariants.{Start}
use Rattle.query_proto.specs.Frames.{limit_of, sent_reply, sent_request}
use Rattle.wire.specs.Talks.{Talk, with_sent, with_taken}
use Rattle.wire.proofs.Sending.{sent_none}
use Rattle.session.specs.declared.sessions.TheConstants.{MAX_REQUESTS}
use Rattle.session.specs.declared.sessions.Ended.{Ended}
use Rattle.session.specs.declared.sessions.Ended.TheVariants as ended
use Rattle.session.specs.declared.sessions.SessionFault.{SessionFault}
use Rattle.session.specs.declared.sessions.SessionFault.TheVariants as fault
use Rattle.session.specs.Conversations.{Conversed, EndsSo, Exchange, GoesOn, IsBegun, IsPart, NoFewer, Passes, Rests, ServesRun, bytes_sent, bytes_taken, protocol_after, protocol_behind}
use Rattle.session.specs.Standing.{Place, Standing}
use Rattle.session.specs.Turns.{Exchanges, HoldsMore, Point, Steps, StepsNot, StepsOver, Takes}
use Rattle.session.proofs.Meanwhile.{meanwhile_none}

-- ---- bytes

known_twice : (known : Option (List ℕ)) (first second : List ℕ) → append_known (append_known known first) second ≡ append_known known (first ++ second)
known_twice (Some bytes) first second = ap Some (append_assoc bytes first second)
known_twice None first second = refl

-- a text that was sent behind another
pub sent_twice : (told : Option Talk) (first second : List ℕ) → with_sent (with_sent told first) second ≡ with_sent told (first ++ second)
sent_twice (Some talk) first second = ap (λ (sent : Option (List ℕ)). Some (record talk { sent = sent })) (known_twice talk.sent first second)
sent_twice None first second = refl

-- nothing was taken
pub takes_none : (told : Option Talk) → Takes told told []
takes_none (Some talk) = record { front = refl; after_is = refl }
takes_none None = record { front = tt; after_is = refl }

-- bytes that were taken behind others
pub takes_then : (before mid after : Option Talk) (first second : List ℕ) → Takes before mid first → Takes mid after second → Takes before after (first ++ second)
takes_then None mid after first second p q =
    let then = subst (λ told. Takes told after second) p.after_is q in
    record { front = tt; after_is = then.after_is }
takes_then (Some talk) mid after first second p q =
    let then = subst (λ told. Takes told after second) p.after_is q in
    record {
      front = ap (λ n. take n talk.left) (length-append first second) ∙ take-add (length first) (length second) talk.left
          ∙ ap₂ (λ (x y : List ℕ). x ++ y) p.front then.front;
      after_is = then.after_is ∙ ap (λ (left : List ℕ). Some (record talk { left = left }))
          (drop-drop (length second) (length first) talk.left ∙ ap (λ n. drop n talk.left) (sym (length-append first second)));
    }

-- nothing was held, and nothing taken
pub holds_none : (told : Option Talk) (held : List ℕ) → HoldsMore told told held held
holds_none told held = record { more = []; grown = sym (append-nil held); takes = takes_none told }

-- more bytes, and again more
pub holds_then : (before mid after : Option Talk) (held between now : List ℕ) → HoldsMore before mid held between → HoldsMore mid after between now
    → HoldsMore before after held now
holds_then before mid after held between now p q = record {
  more = p.more ++ q.more;
  grown = q.grown ∙ ap (λ (l : List ℕ). l ++ q.more) p.grown ∙ append_assoc held p.more q.more;
  takes = takes_then before mid after p.more q.more p.takes q.takes;
}

passes_none : (told : Option Talk) → Passes told told [] []
passes_none (Some talk) = record { front = refl; after_is = sent_none (Some talk) }
passes_none None = record { front = tt; after_is = refl }

passes_taken : (before mid after : Option Talk) (taken sent more : List ℕ) → Passes before mid taken sent → Takes mid after more → Passes before after (taken ++ more) sent
passes_taken None mid after taken sent more p q =
    let then = subst (λ told. Takes told after more) p.after_is q in
    record { front = tt; after_is = then.after_is }
passes_taken (Some talk) mid after taken sent more p q =
    let then = subst (λ told. Takes told after more) p.after_is q in
    record {
      front = ap (λ n. take n talk.left) (length-append taken more) ∙ take-add (length taken) (length more) talk.left
          ∙ ap₂ (λ (x y : List ℕ). x ++ y) p.front then.front;
      after_is = then.after_is ∙ ap (λ (left : List ℕ). with_sent (Some (record talk { left = left })) sent)
          (drop-drop (length more) (length taken) talk.left ∙ ap (λ n. drop n talk.left) (sym (length-append taken more)));
    }

passes_sent : (before mid after : Option Talk) (taken sent more : List ℕ) → Passes before mid taken sent → after ≡ with_sent mid more → Passes before after taken (sent ++ more)
passes_sent before mid after taken sent more p e = record {
  front = p.front;
  after_is = e ∙ ap (λ told. with_sent told more) p.after_is ∙ sent_twice (with_taken before (length taken)) sent more;
}

-- the bytes of one exchange more
taken_push : (exchanges : List Exchange) (exchange : Exchange) → bytes_taken (exchanges ++ exchange ∷ []) ≡ bytes_taken exchanges ++ sent_request exchange.frame
taken_push exchanges exchange =
    flat_map-append (λ (exchange : Exchange). sent_request exchange.frame) exchanges (exchange ∷ [])
    ∙ ap (λ (l : List ℕ). bytes_taken exchanges ++ l) (append-nil (sent_request exchange.frame))

sent_push : (exchanges : List Exchange) (exchange : Exchange) → bytes_sent (exchanges ++ exchange ∷ []) ≡ bytes_sent exchanges ++ sent_reply exchange.told exchange.moves
sent_push exchanges exchange =
    flat_map-append (λ (exchange : Exchange). sent_reply exchange.told exchange.moves) exchanges (exchange ∷ [])
    ∙ ap (λ (l : List ℕ). bytes_sent exchanges ++ l) (append-nil (sent_reply exchange.told exchange.moves))

-- what was held and what came in, cut into a frame and what is held then
cut_behind : (front held more frame now : List ℕ) → held ++ more ≡ frame ++ now → (front ++ held) ++ more ≡ (front ++ frame) ++ now
cut_behind front held more frame now cut =
    append_assoc front held more ∙ ap (λ (l : List ℕ). front ++ l) cut ∙ sym (append_assoc front frame now)

-- ---- turns

no_fewer : (looks : Option ℕ) → NoFewer looks looks
no_fewer (Some count) = (count, refl, omega arith)
no_fewer None = refl

rests_none : (place : Place) (standing : Standing) → Rests place standing standing
rests_none place standing = record {
  others = meanwhile_none place standing.seen;
  holds = inl refl;
  looks = no_fewer standing.looks;
}

-- the protocol behind one exchange more
behind_push : (exchanges : List Exchange) (exchange : Exchange) → protocol_behind (exchanges ++ exchange ∷ []) ≡ protocol_after (protocol_behind exchanges) exchange.frame
behind_push exchanges exchange = fold_push (λ proto (exchange : Exchange). protocol_after proto exchange.frame) Start exchanges exchange

-- a session under way: so many frames were answered, none of them ended it, and it stands at this point
pub record InTalk (place : Place) (old : Standing) (before : Option Talk) (count : ℕ) (now : Point) : Type 0 where
  pub exchanges : List Exchange
  pub run : (rest : List Exchange) (end : Standing) → ServesRun place now.proto now.standing rest end → ServesRun place Start old (exchanges ++ rest) end
  pub behind : now.proto ≡ protocol_behind exchanges
  pub goes : All GoesOn exchanges
  pub many : length exchanges ≡ count
  pub passes : Passes before now.talk (bytes_taken exchanges ++ now.held) (bytes_sent exchanges)
  pub begun : length now.held ≤ 2
  pub spent : count ≡ MAX_REQUESTS → now.held ≡ []

pub talk_none : (place : Place) (start : Point) → start.proto ≡ Start → start.held ≡ [] → InTalk place start.standing start.talk 0 start
talk_none place start first none = record {
  exchanges = [];
  run = λ rest end run. subst (λ p. ServesRun place p start.standing rest end) first run;
  behind = first;
  goes = λ k d lt. absurd (omega arith);
  many = refl;
  passes = subst (λ l. Passes start.talk start.talk l []) (sym none) (passes_none start.talk);
  begun = let long = ap (λ (l : List ℕ). length l) none in omega arith;
  spent = λ _. none;
}

module _ (place : Place) (old : Standing) (before : Option Talk) (count : ℕ) (now : Point) (t : InTalk place old before count now) where
  -- the bytes, where a frame was taken and this was sent for it
  passes_over : (exchange : Exchange) (new : Point) (mid : Option Talk) (part : List ℕ) → Exchanges place exchange now mid new → new.talk ≡ with_sent mid part
      → Passes before new.talk (bytes_taken (t.exchanges ++ exchange ∷ []) ++ new.held) (bytes_sent t.exchanges ++ part)
  passes_over exchange new mid part e sent =
      let taken = passes_taken before now.talk mid (bytes_taken t.exchanges ++ now.held) (bytes_sent t.exchanges) e.more t.passes e.takes in
      let whole = passes_sent before mid new.talk ((bytes_taken t.exchanges ++ now.held) ++ e.more) (bytes_sent t.exchanges) part taken sent in
      let same = cut_behind (bytes_taken t.exchanges) now.held e.more (sent_request exchange.frame) new.held e.cut
      ∙ ap (λ (l : List ℕ). l ++ new.held) (sym (taken_push t.exchanges exchange)) in
      subst (λ l. Passes before new.talk l (bytes_sent t.exchanges ++ part)) same whole

  many_over : (exchange : Exchange) → length (t.exchanges ++ exchange ∷ []) ≡ count + 1
  many_over exchange = let many = t.many in let push = length-append t.exchanges (exchange ∷ []) in omega arith

  -- a frame that doesn't end the session
  pub talk_more : (ahead : Bool) (new : Point) → (count + 1 ≡ MAX_REQUESTS → IsFalse ahead) → StepsOver place ahead now None new
      → InTalk place old before (count + 1) new
  talk_more ahead new last s = record {
    exchanges = t.exchanges ++ s.exchange ∷ [];
    run = λ rest end run. subst (λ l. ServesRun place Start old l end) (sym (append_assoc t.exchanges (s.exchange ∷ []) rest))
        (t.run (s.exchange ∷ rest) end (new.standing, s.exchanges.fits, s.exchanges.serves, subst (λ p. ServesRun place p new.standing rest end) s.proto_is run));
    behind = s.proto_is ∙ ap (λ p. protocol_after p s.exchange.frame) t.behind ∙ sym (behind_push t.exchanges s.exchange);
    goes = All-push GoesOn t.exchanges s.exchange t.goes s.ends;
    many = many_over s.exchange;
    passes = subst (λ l. Passes before new.talk (bytes_taken (t.exchanges ++ s.exchange ∷ []) ++ new.held) l) (sym (sent_push t.exchanges s.exchange))
        (passes_over s.exchange new s.then (sent_reply s.exchange.told s.exchange.moves) s.exchanges s.sent);
    begun = s.leaves.0;
    spent = λ e. s.leaves.1 (last e);
  }

  -- the session ends where it stands
  ends_here : (result : Result Ended SessionFault) (new : Point) → count ≤ MAX_REQUESTS → StepsNot now new
      → EndsSo t.exchanges new.held (bytes_sent t.exchanges) new.talk result → Conversed place old before result new.standing new.talk
  ends_here result new few s ends = record {
    exchanges = t.exchanges;
    last = new.held;
    sent = bytes_sent t.exchanges;
    serves = subst (λ l. ServesRun place Start old l new.standing) (append-nil t.exchanges)
        (t.run [] new.standing (subst (λ end. Rests place now.standing end) (sym s.same) (rests_none place now.standing)));
    few = let many = t.many in omega arith;
    passes = subst (λ l. Passes before new.talk l (bytes_sent t.exchanges))
        (append_assoc (bytes_taken t.exchanges) now.held s.more.more ∙ ap (λ (l : List ℕ). bytes_taken t.exchanges ++ l) (sym s.more.grown))
        (passes_taken before now.talk new.talk (bytes_taken t.exchanges ++ now.held) (bytes_sent t.exchanges) s.more.more t.passes s.more.takes);
    ends = ends;
  }

  -- it ends behind a frame
  ends_behind : (result : Result Ended SessionFault) (exchange : Exchange) (new : Point) (mid : Option Talk) (part : List ℕ) → count < MAX_REQUESTS
      → Exchanges place exchange now mid new → new.talk ≡ with_sent mid part
      → EndsSo (t.exchanges ++ exchange ∷ []) new.held (bytes_sent t.exchanges ++ part) new.talk result → Conversed place old before result new.standing new.talk
  ends_behind result exchange new mid part few e sent ends = record {
    exchanges = t.exchanges ++ exchange ∷ [];
    last = new.held;
    sent = bytes_sent t.exchanges ++ part;
    serves = t.run (exchange ∷ []) new.standing (new.standing, e.fits, e.serves, rests_none place new.standing);
    few = let many = many_over exchange in omega arith;
    passes = passes_over exchange new mid part e sent;
    ends = ends;
  }

  -- the session goes on so far, and may take a further frame
  go_on : count < MAX_REQUESTS → length t.exchanges < MAX_REQUESTS
  go_on few = let many = t.many in omega arith

  -- all frames were answered that may be
  pub talk_spent : count ≡ MAX_REQUESTS → Conversed place old before (Ok ended.Spent) now.standing now.talk
  talk_spent all =
      ends_here (Ok ended.Spent) now (omega (arith, all)) (record { same = refl; more = holds_none now.talk now.held })
      (t.goes, t.many ∙ all, record { none = t.spent all; all = refl })

  -- it ends without a fault
  pub talk_ends : (ahead : Bool) (end : Ended) (new : Point) → count < MAX_REQUESTS → Steps place ahead now (Ok (Some end)) new
      → Conversed place old before (Ok end) new.standing new.talk
  talk_ends ahead ended.Bye new few s =
      ends_behind (Ok ended.Bye) s.exchange new s.then (sent_reply s.exchange.told s.exchange.moves) few s.exchanges s.sent (record {
        front = t.exchanges;
        end = s.exchange;
        ends = record { is = refl; all = t.goes };
        bye = s.ends;
        even = record { none = s.leaves; all = sym (sent_push t.exchanges s.exchange) };
      })
  talk_ends ahead ended.Stop new few s =
      ends_behind (Ok ended.Stop) s.exchange new s.then (sent_reply s.exchange.told s.exchange.moves) few s.exchanges s.sent (record {
        front = t.exchanges;
        end = s.exchange;
        ends = record { is = refl; all = t.goes };
        stop = s.ends;
        even = record { none = s.leaves; all = sym (sent_push t.exchanges s.exchange) };
      })
  talk_ends ahead ended.Quiet new few s =
      ends_here (Ok ended.Quiet) new (omega arith) s.0
      (record { all = t.goes; fewer = go_on few }, record { none = s.1; all = refl }, s.2)
  talk_ends ahead ended.Spent new few s = absurd s.ends

  -- it ends by a fault
  pub talk_fails : (ahead : Bool) (why : SessionFault) (new : Point) → count < MAX_REQUESTS → Steps place ahead now (Err why) new
      → Conversed place old before (Err why) new.standing new.talk
  talk_fails ahead (fault.Torn have want) new few s =
      ends_here (Err (fault.Torn have want)) new (omega arith) s.0 (record {
        on = record { all = t.goes; fewer = go_on few };
        have_is = s.1.0;
        part = subst (λ p. IsPart (limit_of p) new.held want) t.behind s.1.1;
        none = s.1.2;
        all = refl;
      })
  talk_fails ahead (fault.TooLong size) new few s =
      ends_here (Err (fault.TooLong size)) new (omega arith) s.0 (record {
        on = record { all = t.goes; fewer = go_on few };
        above = subst (λ p. limit_of p < size) t.behind s.1.0;
        last_is = s.1.1;
        all = refl;
      })
  talk_fails ahead fault.ReadFault new few s =
      ends_here (Err fault.ReadFault) new (omega arith) s.0
      (record { on = record { all = t.goes; fewer = go_on few }; begun = subst (λ p. IsBegun (limit_of p) new.held) t.behind s.1; all = refl })
  talk_fails ahead fault.WriteFault new few s =
      let text = sent_reply s.exchange.told s.exchange.moves in
      let count = s.unsent.0 in
      ends_behind (Err fault.WriteFault) s.exchange new s.then (take count text) few s.exchanges s.unsent.2 (record {
        front = t.exchanges;
        end = s.exchange;
        ends = record { is = refl; all = t.goes };
        ahead = s.begun;
        part = take count text;
        sent_is = refl;
        unsent = record {
          rest = drop count text;
          is = sym (take-append-drop count text);
          some = let less = s.unsent.1 in let left = length-drop count text in omega arith;
        };
      })

  -- the same, as the code has them: the place of the desk is still the same
  pub talk_more_at : (other : Place) (ahead : Bool) (found : Option Ended) (new : Point) → other ≡ place → found ≡ None → Steps other ahead now (Ok found) new
      → (count + 1 ≡ MAX_REQUESTS → IsFalse ahead) → InTalk place old before (count + 1) new
  talk_more_at other ahead found new same is s last =
      talk_more ahead new last (subst (λ p. Steps p ahead now (Ok None) new) same (subst (λ o. Steps other ahead now (Ok o) new) is s))

  pub talk_ends_at : (other : Place) (ahead : Bool) (found : Option Ended) (end : Ended) (new : Point) → other ≡ place → found ≡ Some end
      → Steps other ahead now (Ok found) new → count < MAX_REQUESTS → Conversed place old before (Ok end) new.standing new.talk
  talk_ends_at other ahead found end new same is s few =
      talk_ends ahead end new few (subst (λ p. Steps p ahead now (Ok (Some end)) new) same (subst (λ o. Steps other ahead now (Ok o) new) is s))

  pub talk_fails_at : (other : Place) (ahead : Bool) (why : SessionFault) (new : Point) → other ≡ place → Steps other ahead now (Err why) new
      → count < MAX_REQUESTS → Conversed place old before (Err why) new.standing new.talk
  talk_fails_at other ahead why new same s few = talk_fails ahead why new few (subst (λ p. Steps p ahead now (Err why) new) same s)

-- no further frame may be taken
pub no_more : (count : ℕ) → count ≡ MAX_REQUESTS → IsFalse (nat_lt count MAX_REQUESTS)
no_more count e = ap (λ n. nat_lt n MAX_REQUESTS) e
