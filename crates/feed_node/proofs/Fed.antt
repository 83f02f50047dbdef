-- A feed, turn by turn.
use Rattle.std.proofs.Common.{◌≡◌, ℕ, ◌+◌, ◌<◌, ◌≤◌, Bool, true, List, [], ◌∷◌, ◌++◌, length, take, Option, Result, Ok, Err, refl, sym, subst, ap, ◌∙◌, length-append, arith}
use Rattle.std.proofs.lemmas.Grind.{flat_map-append}
use Rattle.std.proofs.lemmas.List.{append-nil}
use Rattle.path_core.specs.declared.entry.Entry.{Entry}
use Rattle.path_core.proofs.Passing.{begins_itself, begins_then}
use Rattle.follow_proto.specs.Feeds.{ask_bytes, message_bytes}
use Rattle.wire.specs.declared.faults.Failed.{Failed}
use Rattle.wire.specs.Talks.{SendsPrefix, Talk, with_sent}
use Rattle.path_client.specs.Taking.{Takes}
use Rattle.path_client.specs.Asking.{IsFirstPart, Passes}
use Rattle.feed_node.specs.declared.feeding.TheConstants.{MAX_ASKS}
use Rattle.feed_node.specs.declared.feeding.FeedEnded.TheVariants.{Quiet, Spent}
use Rattle.feed_node.specs.declared.feeding.FeedEnded.{FeedEnded}
use Rattle.feed_node.specs.declared.feeding.FeedFault.{FeedFault}
use Rattle.feed_node.specs.declared.feeding.FeedFault.TheVariants as fault
use Rattle.feed_node.specs.Feeds.{FeedsBeginAnywhere, Told, Answers, AnswersAll, asked_bytes, told_bytes}
use Rattle.feed_node.specs.Feeding.{EndsSo, FeedsBehind, Sight}
use Rattle.feed_node.specs.Asking.{EndsBetween, LacksAsk}
use Rattle.feed_node.specs.Turns.{StepsOn, Steps}
use Rattle.feed_node.proofs.Passing.{part_behind, passes_none, passes_part, passes_sent, passes_taken, passes_both, passes_only}

-- one message more
answers_more : (before mid after : List Entry) (tolds : List Told) (told : Told) → AnswersAll before tolds mid → Answers mid told after
    → AnswersAll before (tolds ++ told ∷ []) after
answers_more before mid after [] told p q =
    (after, record { low = q.low; point = q.point; goes = begins_then before mid q.point p q.goes; on = q.on; says = q.says }, begins_itself after)
answers_more before mid after (first ∷ tolds) told (next, a, rest) q = (next, a, answers_more next mid after tolds told rest q)

pub feeds_begin_anywhere : FeedsBeginAnywhere
feeds_begin_anywhere point history [] p = record { rest = history; is = refl }
feeds_begin_anywhere point history (told ∷ tolds) (after, a, rest) =
    (after, record { low = a.low; point = a.point; goes = record { rest = a.point; is = refl }; on = a.on; says = a.says }, rest)

asked_more : (tolds : List Told) (told : Told) → asked_bytes (tolds ++ told ∷ []) ≡ asked_bytes tolds ++ ask_bytes told.known
asked_more tolds told =
    flat_map-append (λ (t : Told). ask_bytes t.known) tolds (told ∷ []) ∙ ap (λ l. asked_bytes tolds ++ l) (append-nil (ask_bytes told.known))

told_more : (tolds : List Told) (told : Told) → told_bytes (tolds ++ told ∷ []) ≡ told_bytes tolds ++ message_bytes told.message
told_more tolds told =
    flat_map-append (λ (t : Told). message_bytes t.message) tolds (told ∷ []) ∙ ap (λ l. told_bytes tolds ++ l) (append-nil (message_bytes told.message))

-- so many asks were answered
pub record IsFedTo (pass : Sight) (before : Option Talk) (now : Sight) (after : Option Talk) (count : ℕ) : Type 0 where
  pub tolds : List Told
  pub many : length tolds ≡ count
  pub answers : AnswersAll pass.seen tolds now.seen
  pub looks : pass.looks + count ≤ now.looks
  pub passes : Passes before after (asked_bytes tolds) (told_bytes tolds)

pub fed_none : (pass : Sight) (told : Option Talk) → IsFedTo pass told pass told 0
fed_none pass told = record { tolds = []; many = refl; answers = begins_itself pass.seen; looks = omega arith; passes = passes_none told }

module _ (pass now next : Sight) (before mid after : Option Talk) (count : ℕ) (p : IsFedTo pass before now mid count) where
  -- one ask more was taken
  asked : {A : Type 0} (result : Result A Failed) (s : StepsOn now mid result next after) → Passes before s.between (asked_bytes (p.tolds ++ s.tells.told ∷ [])) (told_bytes p.tolds)
  asked result s =
      subst (λ l. Passes before s.between l (told_bytes p.tolds)) (ap (λ n. asked_bytes p.tolds ++ ask_bytes n) (sym s.tells.known_is) ∙ sym (asked_more p.tolds s.tells.told))
      (passes_taken before mid s.between (asked_bytes p.tolds) (told_bytes p.tolds) (ask_bytes s.known) p.passes s.takes)

  more_long : (told : Told) → length (p.tolds ++ told ∷ []) ≡ count + 1
  more_long told = length-append p.tolds (told ∷ []) ∙ ap (λ n. n + 1) p.many

  pub fed_more : StepsOn now mid (Ok true) next after → IsFedTo pass before next after (count + 1)
  fed_more s = record {
    tolds = p.tolds ++ s.tells.told ∷ [];
    many = more_long s.tells.told;
    answers = answers_more pass.seen now.seen next.seen p.tolds s.tells.told p.answers s.tells.answers;
    looks = omega (arith, p.looks, s.tells.looks);
    passes = subst (Passes before after (asked_bytes (p.tolds ++ s.tells.told ∷ []))) (sym (told_more p.tolds s.tells.told))
        (passes_sent before s.between after _ (told_bytes p.tolds) (message_bytes s.tells.told.message) (asked (Ok true) s) s.tells.sends);
  }

  fed_unsent : (failed : Failed) → count < MAX_ASKS → StepsOn {A = Bool} now mid (Err failed) next after → FeedsBehind [] pass before (Err fault.WriteFault) next after
  fed_unsent failed few s =
      let part = take s.tells.sends.0 (message_bytes s.tells.told.message) in
      record {
        tolds = p.tolds ++ s.tells.told ∷ [];
        last = [];
        sent = told_bytes p.tolds ++ part;
        answers = answers_more pass.seen now.seen next.seen p.tolds s.tells.told p.answers s.tells.answers;
        looks = omega (arith, p.looks, s.tells.looks, more_long s.tells.told);
        few = omega (arith, few, more_long s.tells.told);
        passes = subst (λ l. Passes before after l (told_bytes p.tolds ++ part)) (sym (append-nil (asked_bytes (p.tolds ++ s.tells.told ∷ []))))
            (passes_part before s.between after _ (told_bytes p.tolds) (message_bytes s.tells.told.message) (asked (Err failed) s) s.tells.sends);
        ends = (
          refl,
          subst (IsFirstPart (told_bytes p.tolds ++ part)) (sym (told_more p.tolds s.tells.told))
              (part_behind (told_bytes p.tolds) (message_bytes s.tells.told.message) part (s.tells.sends.0, s.tells.sends.1, refl)),
        );
      }

  -- nothing more was asked
  module _ (few : count < MAX_ASKS) (same : next ≡ now) where
    ended : (last : List ℕ) (result : Result FeedEnded FeedFault) → Takes mid after last
        → EndsSo count last (told_bytes p.tolds) (told_bytes p.tolds) after result → FeedsBehind [] pass before result next after
    ended last result takes ends = record {
      tolds = p.tolds;
      last = last;
      sent = told_bytes p.tolds;
      answers = subst (λ (n : Sight). AnswersAll pass.seen p.tolds n.seen) (sym same) p.answers;
      looks = subst (λ (n : Sight). pass.looks + length p.tolds ≤ n.looks) (sym same) (omega (arith, p.looks, p.many));
      few = omega (arith, few, p.many);
      passes = passes_taken before mid after (asked_bytes p.tolds) (told_bytes p.tolds) last p.passes takes;
      ends = subst (λ n. EndsSo n last (told_bytes p.tolds) (told_bytes p.tolds) after result) (sym p.many) ends;
    }

    pub fed_quiet : EndsBetween mid after → FeedsBehind [] pass before (Ok Quiet) next after
    fed_quiet e = ended [] (Ok Quiet) e.none (few, refl, refl, e.end)

    fed_lacking : (why : FeedFault) → LacksAsk mid after why → FeedsBehind [] pass before (Err why) next after
    fed_lacking (fault.Torn have) s = ended s.last (Err (fault.Torn have)) s.takes (s.is.0, s.is.1, refl, s.is.2)
    fed_lacking (fault.BadAsk byte) s = ended s.last (Err (fault.BadAsk byte)) s.takes (s.is, refl)
    fed_lacking fault.ReadFault s = ended s.last (Err fault.ReadFault) s.takes (s.is, refl)
    fed_lacking fault.WriteFault s = absurd s.is

  pub fed_fault : (why : FeedFault) → count < MAX_ASKS → Steps now mid (Err why) next after → FeedsBehind [] pass before (Err why) next after
  fed_fault (fault.Torn have) few s = fed_lacking few s.0 (fault.Torn have) s.1
  fed_fault (fault.BadAsk byte) few s = fed_lacking few s.0 (fault.BadAsk byte) s.1
  fed_fault fault.ReadFault few s = fed_lacking few s.0 fault.ReadFault s.1
  fed_fault fault.WriteFault few s = fed_unsent s.0 few s.1

-- the most asks were answered
pub fed_spent : (pass now : Sight) (before after : Option Talk) (count : ℕ) → IsFedTo pass before now after count → count ≡ MAX_ASKS
    → FeedsBehind [] pass before (Ok Spent) now after
fed_spent pass now before after count p all = record {
  tolds = p.tolds;
  last = [];
  sent = told_bytes p.tolds;
  answers = p.answers;
  looks = omega (arith, p.looks, p.many);
  few = omega (arith, p.many, all);
  passes = subst (λ l. Passes before after l (told_bytes p.tolds)) (sym (append-nil (asked_bytes p.tolds))) p.passes;
  ends = (p.many ∙ all, refl, refl);
}

-- ---- behind the map

ends_behind : (head : List ℕ) (asks : ℕ) (last feed sent : List ℕ) (told : Option Talk) (result : Result FeedEnded FeedFault)
    → EndsSo asks last feed sent told result → EndsSo asks last (head ++ feed) (head ++ sent) told result
ends_behind head asks last feed sent told (Ok Quiet) (few, none, all, end) = (few, none, ap (λ l. head ++ l) all, end)
ends_behind head asks last feed sent told (Ok Spent) (most, none, all) = (most, none, ap (λ l. head ++ l) all)
ends_behind head asks last feed sent told (Err (fault.Torn have)) (is, part, all, end) = (is, part, ap (λ l. head ++ l) all, end)
ends_behind head asks last feed sent told (Err (fault.BadAsk byte)) (other, all) = (other, ap (λ l. head ++ l) all)
ends_behind head asks last feed sent told (Err fault.ReadFault) (begun, all) = (begun, ap (λ l. head ++ l) all)
ends_behind head asks last feed sent told (Err fault.WriteFault) (none, part) = (none, part_behind head feed sent part)

pub fed_behind : (head : List ℕ) (pass now : Sight) (before mid after : Option Talk) (result : Result FeedEnded FeedFault)
    → mid ≡ with_sent before head → FeedsBehind [] pass mid result now after → FeedsBehind head pass before result now after
fed_behind head pass now before mid after result sent p = record {
  tolds = p.tolds;
  last = p.last;
  sent = head ++ p.sent;
  answers = p.answers;
  looks = p.looks;
  few = p.few;
  passes = passes_both before mid after [] head (asked_bytes p.tolds ++ p.last) p.sent (passes_only before mid head sent) p.passes;
  ends = ends_behind head (length p.tolds) p.last (told_bytes p.tolds) p.sent after result p.ends;
}

-- less than the map was sent
pub start_unsent : (head : List ℕ) (pass : Sight) (before after : Option Talk) → SendsPrefix before after head
    → FeedsBehind head pass before (Err fault.WriteFault) pass after
start_unsent head pass before after (count, less, e) = record {
  tolds = [];
  last = [];
  sent = take count head;
  answers = begins_itself pass.seen;
  looks = omega arith;
  few = omega arith;
  passes = passes_part before before after [] [] head (passes_none before) (count, less, e);
  ends = (refl, subst (IsFirstPart (take count head)) (sym (append-nil head)) (count, less, refl));
}
