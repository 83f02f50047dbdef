-- What a follower does over a link, round by round.
use Rattle.std.proofs.Common.{◌≡◌, ◌⊎◌, inl, inr, ℕ, ◌+◌, Option, Result, Ok, Err, IfErr, OnOk, List, [], ◌∷◌, ◌++◌, take, refl, sym, subst, ap, ◌∙◌, length-append}
use Rattle.std.proofs.lemmas.Grind.{flat_map-append}
use Rattle.std.proofs.lemmas.List.{append-nil, append_assoc}
use Rattle.wire.specs.Talks.{SendsPrefix, Talk, with_sent}
use Rattle.path_client.specs.Asking.{IsFirstPart, Passes}
use Rattle.feed_node.proofs.Passing.{passes_alone, passes_both, passes_none, passes_only, passes_part, passes_taken}
use Rattle.follow_node.specs.declared.links.LinkFault.{LinkFault}
use Rattle.follow_node.specs.declared.links.LinkFault.TheVariants as link
use Rattle.follow_node.specs.Streams.{Following}
use Rattle.follow_node.specs.Links.{FailsRound, FailsRounds, FollowsLink, GoesRound, GoesRounds, HasFollowed, Heeds, HeedsFrom, Rounds}
use Rattle.follow_node.specs.Links.{StopsBy, StopsFrom, StopsInRound, StopsUnsent, all_of, ask_of}

-- ---- one round

pub round_goes : (before after : Following) (told between then : Option Talk) → between ≡ with_sent told (ask_of before)
    → HeedsFrom before between after then → GoesRound before told after then
round_goes before after told between then e p = record {
  message = p.message;
  passes = passes_taken told between then [] (ask_of before) p.message (passes_only told between (ask_of before) e) p.takes;
  heeds = p.heeds;
}

round_stops : (before after : Following) (told between then : Option Talk) (why : LinkFault) → between ≡ with_sent told (ask_of before)
    → StopsFrom before between why after then → FailsRound before told why after then
round_stops before after told between then why e p = record {
  part = p.part;
  sent = ask_of before;
  passes = passes_taken told between then [] (ask_of before) p.part (passes_only told between (ask_of before) e) p.takes;
  how = inl (refl, p.by);
}

pub round_stops_so : {A : Type 0} (result : Result A LinkFault) (before after : Following) (told between then : Option Talk)
    → between ≡ with_sent told (ask_of before) → IfErr result (λ why. StopsFrom before between why after then)
    → IfErr result (λ why. FailsRound before told why after then)
round_stops_so (Ok done) before after told between then e p = tt
round_stops_so (Err why) before after told between then e p = round_stops before after told between then why e p

pub round_unsent : (before : Following) (told then : Option Talk) → SendsPrefix told then (ask_of before)
    → FailsRound before told link.WriteFault before then
round_unsent before told then p = record {
  part = [];
  sent = take p.0 (ask_of before);
  passes = passes_part told told then [] [] (ask_of before) (passes_none told) p;
  how = inr (refl, refl, refl, (p.0, p.1, refl));
}

-- ---- rounds

rounds_more : (before mid after : Following) (messages : List (List ℕ)) (sent message : List ℕ) → Rounds before messages sent mid → Heeds mid message after
    → Rounds before (messages ++ message ∷ []) (sent ++ ask_of mid) after
rounds_more before mid after [] sent message (none, same) heeds = (
  [],
  after,
  ap (λ l. l ++ ask_of mid) none ∙ ap ask_of same ∙ sym (append-nil (ask_of before)),
  subst (λ f. Heeds f message after) same heeds,
  (refl, refl),
)
rounds_more before mid after (first ∷ messages) sent message (rest, next, e, heeds, goes) last = (
  rest ++ ask_of mid,
  next,
  ap (λ l. l ++ ask_of mid) e ∙ append_assoc (ask_of before) rest (ask_of mid),
  heeds,
  rounds_more next mid after messages rest message goes last,
)

all_more : (messages : List (List ℕ)) (message : List ℕ) → all_of (messages ++ message ∷ []) ≡ all_of messages ++ message
all_more messages message =
    flat_map-append (λ (m : List ℕ). m) messages (message ∷ []) ∙ ap (λ l. all_of messages ++ l) (append-nil message)

pub rounds_none : (before : Following) (told : Option Talk) → GoesRounds 0 before told before told
rounds_none before told = record { messages = []; many = refl; sent = []; passes = passes_none told; goes = (refl, refl) }

pub one_more_round : (count : ℕ) (before mid after : Following) (told between then : Option Talk) → GoesRounds count before told mid between
    → GoesRound mid between after then → GoesRounds (count + 1) before told after then
one_more_round count before mid after told between then p q = record {
  messages = p.messages ++ q.message ∷ [];
  many = length-append p.messages (q.message ∷ []) ∙ ap (λ n. n + 1) p.many;
  sent = p.sent ++ ask_of mid;
  passes = subst (λ l. Passes told then l (p.sent ++ ask_of mid)) (sym (all_more p.messages q.message))
      (passes_both told between then (all_of p.messages) p.sent q.message (ask_of mid) p.passes q.passes);
  goes = rounds_more before mid after p.messages p.sent q.message p.goes q.heeds;
}

-- ---- the map, and then the rounds

module _ {A : Type 0} (rounds : ℕ) (before : Following) (told : Option Talk) where
  follows_all : (began after : Following) (between then : Option Talk) (done : A) → HeedsFrom before told began between
      → GoesRounds rounds began between after then → FollowsLink {A = A} rounds before told (Ok done) after then
  follows_all began after between then done p q = record {
    taken = p.message ++ all_of q.messages;
    sent = q.sent;
    passes = passes_both told between then p.message [] (all_of q.messages) q.sent (passes_alone told between p.message p.takes) q.passes;
    ends = record {
      start = p.message;
      began = began;
      begins = p.heeds;
      messages = q.messages;
      many = q.many;
      goes_on = q.goes;
      taken_is = refl;
    };
  }

  pub follows_none : (after : Following) (then : Option Talk) (why : LinkFault) → StopsFrom before told why after then
      → FollowsLink {A = A} rounds before told (Err why) after then
  follows_none after then why p = record {
    taken = p.part;
    sent = [];
    passes = passes_alone told then p.part p.takes;
    ends = inl (record { none = refl; by = p.by });
  }

  follows_some : (began after : Following) (between then : Option Talk) (why : LinkFault) → HeedsFrom before told began between
      → FailsRounds rounds began between why after then → FollowsLink {A = A} rounds before told (Err why) after then
  follows_some began after between then why p q = record {
    taken = heard ++ q.fails.part;
    sent = q.goes.sent ++ q.fails.sent;
    passes = passes_both told q.between then heard q.goes.sent q.fails.part q.fails.sent
        (passes_both told between q.between p.message [] (all_of q.goes.messages) q.goes.sent (passes_alone told between p.message p.takes) q.goes.passes)
        q.fails.passes;
    ends = inr (ended q.fails.how);
  }
    where
      heard : List ℕ
      heard = p.message ++ all_of q.goes.messages

      followed : HasFollowed q.done before heard q.goes.sent q.mid
      followed = record {
        start = p.message;
        began = began;
        begins = p.heeds;
        messages = q.goes.messages;
        many = q.goes.many;
        goes_on = q.goes.goes;
        taken_is = refl;
      }

      ended : ((q.fails.sent ≡ ask_of q.mid) × StopsBy q.mid q.fails.part then why after)
          ⊎ ((why ≡ link.WriteFault) × (q.fails.part ≡ []) × (after ≡ q.mid) × IsFirstPart q.fails.sent (ask_of q.mid))
          → StopsInRound rounds before (heard ++ q.fails.part) (q.goes.sent ++ q.fails.sent) then why after
          ⊎ StopsUnsent rounds before (heard ++ q.fails.part) (q.goes.sent ++ q.fails.sent) why after
      ended (inl (all, by)) = inl (record {
        done = q.done;
        fewer = q.fewer;
        at = q.mid;
        heard = heard;
        asked = q.goes.sent;
        followed = followed;
        part = q.fails.part;
        taken_is = refl;
        sent_is = ap (λ l. q.goes.sent ++ l) all;
        by = by;
      })
      ended (inr (is, none, same, unsent)) = inr (record {
        why_is = is;
        done = q.done;
        fewer = q.fewer;
        asked = q.goes.sent;
        followed = subst (λ l. HasFollowed q.done before l q.goes.sent after) (sym (ap (λ l. heard ++ l) none ∙ append-nil heard))
            (subst (HasFollowed q.done before heard q.goes.sent) (sym same) followed);
        part = q.fails.sent;
        sent_is = refl;
        unsent = subst (λ f. IsFirstPart q.fails.sent (ask_of f)) (sym same) unsent;
      })

  pub follows_rounds : (result : Result A LinkFault) (began after : Following) (between then : Option Talk) → HeedsFrom before told began between
      → OnOk result (GoesRounds rounds began between after then) → IfErr result (λ why. FailsRounds rounds began between why after then)
      → FollowsLink {A = A} rounds before told result after then
  follows_rounds (Ok done) began after between then p all some = follows_all began after between then done p all
  follows_rounds (Err why) began after between then p all some = follows_some began after between then why p some
