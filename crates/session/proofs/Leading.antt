-- Talks at a door, one after the other.
use Rattle.std.proofs.Common.{◌≡◌, ℕ, true, false, ◌||◌, Err, IfErr, IfSome, IsSome, List, [], ◌∷◌, ◌++◌, length, None, Ok, Option, Result, Some, option_map, inl, inr, refl, sym, subst, ap, ◌∙◌}
use Rattle.std.specs.Io.KnownBytes.{append_known}
use Rattle.std.specs.List.{list_any}
use Rattle.std.proofs.lemmas.List.{append-nil, append_assoc}
use Rattle.std.proofs.lemmas.List.Folds.{list_any-append}
use Rattle.path_core.specs.declared.entry.Entry.{Entry}
use Rattle.path_core.specs.declared.entry.Entry.TheVariants.{Accept, Halt}
use Rattle.path_core.specs.Histories.{IsHalting, is_halt}
use Rattle.path_core.specs.Passes.{BeginsWith}
use Rattle.path_core.proofs.Passing.{begins_then, others_then}
use Rattle.query_proto.specs.declared.protocols.Proto.{Proto}
use Rattle.query_proto.specs.declared.protocols.Proto.TheVariants.{Start}
use Rattle.query_proto.specs.declared.replies.Reply.TheVariants as reply
use Rattle.query_proto.specs.declared.replies.Reply.{Reply}
use Rattle.query_proto.specs.declared.requests.Request.{Request}
use Rattle.query_proto.specs.declared.requests.Request.TheVariants as request
use Rattle.edit_log.specs.declared.edit.Edit.{Edit}
use Rattle.moves.specs.declared.Move.{Move}
use Rattle.wire.specs.Causes.{Rose}
use Rattle.wire.specs.Knocks.{AtDoor, TellsToo}
use Rattle.wire.specs.Talks.{AtLink, EndedTalk, IsFresh, IsUnused, Talk, talk_over, with_ended, with_sent, with_taken}
use Rattle.session.specs.declared.sessions.Ended.{Ended}
use Rattle.session.specs.declared.sessions.SessionFault.{SessionFault}
use Rattle.session.specs.declared.sessions.SessionFault.TheVariants as fault
use Rattle.session.specs.Conversations.{Conversed, Exchange, HasCause, Rests, ServesFrame, ServesRun, bytes_taken, protocol_after}
use Rattle.session.specs.Doors.{HasGoneOn, HasServed, HasServedOne, HoldsTalk, IsServedTalk, Lead, LeadsOn, LooksBetween, MayGoOn, MovesOn, LendsTheSame, ServesOne, as_begun, link_begun, link_ended}
use Rattle.session.specs.Served.{Serves, ServesChange, ServesStatus, ServesStop}
use Rattle.session.specs.Standing.{AddsOnlyOwn, HoldsSince, Place, Standing}
use Rattle.session.proofs.Meanwhile.{Grows, enters_grows, grows_itself, grows_then, meanwhile_begin, meanwhile_grows}
use Rattle.session.proofs.Ringing.{build_grows, held_then, rests_none, rests_then}

-- ---- what is seen after a request goes on from what was seen before it

change_grows : (place : Place) (edit : Edit) (before : List Entry) (told : Reply) (after : List Entry) → ServesChange place edit before told after → Grows place before after
change_grows place edit before (reply.Path version cost) after s = absurd s
change_grows place edit before (reply.Unreachable version) after s = absurd s
change_grows place edit before (reply.Refused version why) after s = absurd s
change_grows place edit before (reply.Accepted number) after s = enters_grows place (Accept place.pass edit) before after refl s.own
change_grows place edit before (reply.EditRefused why) after s = meanwhile_grows place before after s.0
change_grows place edit before (reply.Published prefix built kept) after s = absurd s
change_grows place edit before (reply.NothingNew prefix) after s = absurd s
change_grows place edit before (reply.Overtaken by) after s = absurd s
change_grows place edit before (reply.Status version accepted cells comps runs) after s = absurd s
change_grows place edit before reply.Done after s = absurd s
change_grows place edit before (reply.Malformed kind length) after s = absurd s
change_grows place edit before reply.Welcome after s = absurd s
change_grows place edit before reply.NoMemory after s = meanwhile_grows place before after s.0

status_grows : (place : Place) (before : List Entry) (told : Reply) (after : List Entry) → ServesStatus place before told after → Grows place before after
status_grows place before (reply.Path version cost) after s = absurd s
status_grows place before (reply.Unreachable version) after s = absurd s
status_grows place before (reply.Refused version why) after s = absurd s
status_grows place before (reply.Accepted number) after s = absurd s
status_grows place before (reply.EditRefused why) after s = absurd s
status_grows place before (reply.Published prefix built kept) after s = absurd s
status_grows place before (reply.NothingNew prefix) after s = absurd s
status_grows place before (reply.Overtaken by) after s = absurd s
status_grows place before (reply.Status version accepted cells comps runs) after s = meanwhile_grows place before after s.others
status_grows place before reply.Done after s = absurd s
status_grows place before (reply.Malformed kind length) after s = absurd s
status_grows place before reply.Welcome after s = absurd s
status_grows place before reply.NoMemory after s = absurd s

stop_grows : (place : Place) (before : List Entry) (told : Reply) (after : List Entry) → ServesStop place before told after → Grows place before after
stop_grows place before (reply.Path version cost) after s = absurd s
stop_grows place before (reply.Unreachable version) after s = absurd s
stop_grows place before (reply.Refused version why) after s = absurd s
stop_grows place before (reply.Accepted number) after s = absurd s
stop_grows place before (reply.EditRefused why) after s = absurd s
stop_grows place before (reply.Published prefix built kept) after s = absurd s
stop_grows place before (reply.NothingNew prefix) after s = absurd s
stop_grows place before (reply.Overtaken by) after s = absurd s
stop_grows place before (reply.Status version accepted cells comps runs) after s = absurd s
stop_grows place before reply.Done after s = elim s [
  | inl first ↦ enters_grows place (Halt place.pass) before after refl (record { between = first.between; others = first.others; own = first.own })
  | inr there ↦ meanwhile_grows place before after there.0
]
stop_grows place before (reply.Malformed kind length) after s = absurd s
stop_grows place before reply.Welcome after s = absurd s
stop_grows place before reply.NoMemory after s = meanwhile_grows place before after s.0

serves_grows : (place : Place) (asked : Request) (old : Standing) (told : Reply) (moves : List Move) (new : Standing) → Serves place asked old told moves new
    → Grows place old.seen new.seen
serves_grows place (request.Query start goal) old told moves new s = meanwhile_grows place old.seen new.seen s.others
serves_grows place (request.Change edit) old told moves new s = change_grows place edit old.seen told new.seen s.0
serves_grows place request.Build old told moves new s = build_grows place old.seen told new s.0
serves_grows place request.Status old told moves new s = status_grows place old.seen told new.seen s.0
serves_grows place request.Bye old told moves new s = subst (λ (to : Standing). Grows place old.seen to.seen) (sym s.2) (grows_itself place old.seen)
serves_grows place request.Stop old told moves new s = stop_grows place old.seen told new.seen s.0
serves_grows place request.Hello old told moves new s = subst (λ (to : Standing). Grows place old.seen to.seen) (sym s.2) (grows_itself place old.seen)

-- the history goes on, and the version that is held is the one from before or was published since
record Onward (place : Place) (old new : Standing) : Type 0 where
  pub extends : Grows place old.seen new.seen
  pub holds : HoldsSince old new

onward_itself : (place : Place) (standing : Standing) → Onward place standing standing
onward_itself place standing = record { extends = grows_itself place standing.seen; holds = inl refl }

onward_then : (place : Place) (old mid new : Standing) → Onward place old mid → Onward place mid new → Onward place old new
onward_then place old mid new p q = record {
  extends = grows_then place old.seen mid.seen new.seen p.extends q.extends;
  holds = held_then old.seen mid.seen new.seen old.held mid.held new.held p.extends.begins q.extends.begins p.holds q.holds;
}

rests_onward : (place : Place) (old new : Standing) → Rests place old new → Onward place old new
rests_onward place old new p = record { extends = meanwhile_grows place old.seen new.seen p.others; holds = p.holds }

frame_onward : (place : Place) (proto : Proto) (exchange : Exchange) (old new : Standing) → ServesFrame place proto exchange old new → Onward place old new
frame_onward place proto exchange old new frame = elim frame [
  | inl s ↦ record { extends = serves_grows place s.asked old exchange.told exchange.moves new s.serves.served; holds = s.serves.holds }
  | inr s ↦ subst (Onward place old) (sym s.same) (onward_itself place old)
]

run_onward : (place : Place) (proto : Proto) (old : Standing) (exchanges : List Exchange) (new : Standing) → ServesRun place proto old exchanges new → Onward place old new
run_onward place proto old [] new run = rests_onward place old new run
run_onward place proto old (exchange ∷ rest) new (point, fits, frame, run) =
    onward_then place old point new (frame_onward place proto exchange old point frame)
    (run_onward place (protocol_after proto exchange.frame) point rest new run)

-- on a board of one's own, a conversation adds entries of its pass alone
pub talks_are_own : (place : Place) (old : Standing) (before : Option Talk) (result : Result Ended SessionFault) (new : Standing) (after : Option Talk)
    → Conversed place old before result new after → place.shared ≡ None → AddsOnlyOwn place.pass old.seen new.seen
talks_are_own place old before result new after c alone = (run_onward place Start old c.exchanges new c.serves).extends.own alone

-- ---- talks

-- a board that halted halts still
pub halts_still : (seen history : List Entry) → BeginsWith history seen → IsHalting seen → IsHalting history
halts_still seen history begins halts =
    subst IsHalting (sym begins.is) (list_any-append is_halt seen begins.rest ∙ ap (λ b. b || list_any is_halt begins.rest) halts)

-- nothing was entered meanwhile, so a pass moves on
pub rests_move : (silent : Place → Type 0) (place : Place) (old new : Standing) → Rests place old new → MovesOn silent place old new
rests_move silent place old new p = record { extends = meanwhile_begin place old.seen new.seen p.others; holds = p.holds; quiet = λ _. p.others.others }

pub moves_then : (silent : Place → Type 0) (place : Place) (old mid new : Standing) → MovesOn silent place old mid → MovesOn silent place mid new
    → MovesOn silent place old new
moves_then silent place old mid new p q = record {
  extends = begins_then old.seen mid.seen new.seen p.extends q.extends;
  holds = held_then old.seen mid.seen new.seen old.held mid.held new.held p.extends q.extends p.holds q.holds;
  quiet = λ still. others_then place.pass old.seen mid.seen new.seen (p.quiet still) (q.quiet still);
}

-- who goes on without a halt did so from each look before
may_go_on : (place : Place) (look mid : Standing) (more : List EndedTalk) → Rests place look mid → (IsHalting mid.seen → ⊥) → MayGoOn look more
may_go_on place look mid [] rests on = tt
may_go_on place look mid (talk ∷ rest) rests on = λ halts. on (halts_still look.seen mid.seen (rests_onward place look mid rests).extends.begins halts)

module _ (held : Place → Standing → EndedTalk → Standing → Type 0) where
  lead_front : (place : Place) (old mid : Standing) (talks : List EndedTalk) (new : Standing) → Rests place old mid → Lead held place mid talks new
      → Lead held place old talks new
  lead_front place old mid [] new first lead = rests_then place old mid new first lead
  lead_front place old mid (talk ∷ rest) new first (from, to, look, rests, served, looks, may, lead) =
      (from, to, look, rests_then place old mid from first rests, served, looks, may, lead)

  lead_then : (place : Place) (old : Standing) (talks : List EndedTalk) (mid : Standing) (more : List EndedTalk) (new : Standing) → (IsHalting mid.seen → ⊥)
      → Lead held place old talks mid → Lead held place mid more new → Lead held place old (talks ++ more) new
  lead_then place old [] mid more new on lead then = lead_front place old mid more new lead then
  lead_then place old (talk ∷ []) mid more new on (from, to, look, rests, served, looks, may, lead) then =
      (from, to, look, rests, served, looks, may_go_on place look mid more lead on, lead_front place look mid more new lead then)
  lead_then place old (talk ∷ next ∷ rest) mid more new on (from, to, look, rests, served, looks, may, lead) then =
      (from, to, look, rests, served, looks, may, lead_then place look (next ∷ rest) mid more new on lead then)

  leads_then : (place : Place) (old mid new : Standing) (before between after : Option (List EndedTalk)) → (IsHalting mid.seen → ⊥)
      → IfSome before (λ talks. LeadsOn held place old talks mid between) → IfSome between (λ talks. LeadsOn held place mid talks new after)
      → IfSome before (λ talks. LeadsOn held place old talks new after)
  leads_then place old mid new None between after on p q = tt
  leads_then place old mid new (Some talks) between after on p q =
      let then : LeadsOn held place mid (talks ++ p.more) new after = subst (λ told. IfSome told (λ all. LeadsOn held place mid all new after)) p.after_is q in
      record {
        more = p.more ++ then.more;
        after_is = then.after_is ∙ ap Some (append_assoc talks p.more then.more);
        lead = lead_then place old p.more mid then.more new on p.lead then.lead;
      }

  one_looked_at : (place : Place) (old mid new : Standing) (before after : Option (List EndedTalk))
      → IfSome before (λ talks. ServesOne held place old talks mid after) → LooksBetween place mid new
      → IfSome before (λ talks. LeadsOn held place old talks new after)
  one_looked_at place old mid new None after one looks = tt
  one_looked_at place old mid new (Some talks) after one looks = record {
    more = one.talk ∷ [];
    after_is = one.after_is;
    lead = (old, mid, new, rests_none place old, one.served, looks, tt, rests_none place new);
  }

  one_told : (place : Place) (from to : Standing) (talks : List EndedTalk) (link : AtLink)
      → HoldsTalk held place from link to → ServesOne held place from talks to (with_ended (Some talks) link)
  one_told place from to talks link p = record {
    talk = talk_over link p.talk;
    after_is = ap (option_map (λ talk. talks ++ talk_over link talk ∷ [])) p.told_is;
    served = p.so;
  }

  module _ (silent : Place → Type 0) where
    -- nothing came, and others may have added entries
    pub served_none : (place : Place) (old new : Standing) (told : Option (List EndedTalk)) → Rests place old new → HasServed held silent place old told new told
    served_none place old new None rests = record { on = rests_move silent place old new rests; told = tt }
    served_none place old new (Some talks) rests = record {
      on = rests_move silent place old new rests;
      told = record { more = []; after_is = ap Some (sym (append-nil talks)); lead = rests };
    }

    -- the loop went on from a look at which the board did not halt
    pub served_then : (place : Place) (old mid new : Standing) (before between after : Option (List EndedTalk)) → (IsHalting mid.seen → ⊥)
        → HasServed held silent place old before mid between → HasServed held silent place mid between new after
        → HasServed held silent place old before new after
    served_then place old mid new before between after on p q = record {
      on = moves_then silent place old mid new p.on q.on;
      told = leads_then place old mid new before between after on p.told q.told;
    }

    -- a talk, and the look behind it
    pub served_one : (place : Place) (old mid new : Standing) (before after : Option (List EndedTalk)) → HasServedOne held silent place old before mid after
        → LooksBetween place mid new → HasServed held silent place old before new after
    served_one place old mid new before after p looks = record {
      on = moves_then silent place old mid new p.on (rests_move silent place mid new looks.rests);
      told = one_looked_at place old mid new before after p.told looks;
    }

    -- the same of a loop that may have begun only now
    pub goes_on : (place : Place) (old mid new : Standing) (before between after : Option (List EndedTalk)) → HasGoneOn old before mid between
        → HasServed held silent place old before mid between → HasServed held silent place mid between new after
        → HasServed held silent place old before new after
    goes_on place old mid new before between after gone p q = elim gone [
      | inl begun ↦ subst (λ told. HasServed held silent place old told new after) begun.1
          (subst (λ from. HasServed held silent place from between new after) begun.0 q)
      | inr on ↦ served_then place old mid new before between after on p q
    ]

    -- a talk was held over a connection, which was handed back
    pub served_talk : (place : Place) (from to : Standing) (before : AtDoor) (fresh link : AtLink) (after : Option (List EndedTalk))
        → TellsToo before fresh → MovesOn silent place from to → IfSome fresh.talk (λ _. HoldsTalk held place from link to)
        → after ≡ with_ended before.talks link → HasServedOne held silent place from before.talks to after
    served_talk place from to before fresh link after tells on so is = record { on = on; told = by_talks before.talks fresh.talk tells so is }
      where
        by_talks : (told : Option (List EndedTalk)) (first : Option Talk) → IfSome told (λ _. IsSome first)
            → IfSome first (λ _. HoldsTalk held place from link to) → after ≡ with_ended told link
            → IfSome told (λ talks. ServesOne held place from talks to after)
        by_talks None first tells so is = tt
        by_talks (Some talks) None tells so is = let clash : false ≡ true = tells in absurd (cc)
        by_talks (Some talks) (Some talk) tells so is = subst (ServesOne held place from talks to) (sym is) (one_told place from to talks link so)

    -- a door that has lent as many as before goes on so
    pub lends_then : (place : Place) (old mid : Standing) (before between after : AtDoor)
        → HasServed held silent place old before.talks mid between.talks → LendsTheSame before between → LendsTheSame between after
        → LendsTheSame before after
    lends_then place old mid before between after p one two = by_talks before.talks p.told one
      where
        by_talks : (told : Option (List EndedTalk)) → IfSome told (λ talks. LeadsOn held place old talks mid between.talks)
            → IfSome told (λ _. between.lent ≡ before.lent) → IfSome told (λ _. after.lent ≡ before.lent)
        by_talks None leads one = tt
        by_talks (Some talks) leads one =
            let then : after.lent ≡ between.lent = subst (λ t. IfSome t (λ _. after.lent ≡ between.lent)) leads.after_is two in
            then ∙ one

-- where what one trade holds at a place another does too
module _ (held other : Place → Standing → EndedTalk → Standing → Type 0) (place : Place)
    (turns : (from : Standing) (talk : EndedTalk) (to : Standing) → held place from talk to → other place from talk to) where
  lead_as : (old : Standing) (talks : List EndedTalk) (new : Standing) → Lead held place old talks new → Lead other place old talks new
  lead_as old [] new lead = lead
  lead_as old (talk ∷ rest) new (from, to, look, rests, served, looks, may, lead) =
      (from, to, look, rests, turns from talk to served, looks, may, lead_as look rest new lead)

  leads_as : (old : Standing) (before : Option (List EndedTalk)) (new : Standing) (after : Option (List EndedTalk))
      → IfSome before (λ talks. LeadsOn held place old talks new after) → IfSome before (λ talks. LeadsOn other place old talks new after)
  leads_as old None new after told = tt
  leads_as old (Some talks) new after told = record { more = told.more; after_is = told.after_is; lead = lead_as old told.more new told.lead }

  pub served_as : (silent still : Place → Type 0) (old : Standing) (before : Option (List EndedTalk)) (new : Standing) (after : Option (List EndedTalk))
      → (still place → silent place) → HasServed held silent place old before new after → HasServed other still place old before new after
  served_as silent still old before new after so p = record {
    on = record { extends = p.on.extends; holds = p.on.holds; quiet = λ s. p.on.quiet (so s) };
    told = leads_as old before new after p.told;
  }

pub lends_itself : (door : AtDoor) → LendsTheSame door door
lends_itself door = by_talks door.talks
  where
    by_talks : (told : Option (List EndedTalk)) → IfSome told (λ _. door.lent ≡ door.lent)
    by_talks None = tt
    by_talks (Some talks) = refl

-- ---- a session from its first byte on

sent_begun : (sent : Option (List ℕ)) (bytes : List ℕ) → IfSome sent (λ held. held ≡ []) → sent ≡ option_map (λ (_ : List ℕ). []) (append_known sent bytes)
sent_begun None bytes none = refl
sent_begun (Some held) bytes none = ap Some none

-- a link that has just come in is as its talk was when it began
pub begun : (talk : Talk) (told : Option Talk) (count : ℕ) (bytes : List ℕ) → IsFresh (Some talk) → told ≡ with_sent (with_taken (Some talk) count) bytes
    → Some talk ≡ option_map as_begun told
begun talk told count bytes (whole, none) is =
    let sent = sent_begun talk.sent bytes none in
    let same : Some talk ≡ Some (record { input = talk.input; left = talk.input; sent = option_map (λ (_ : List ℕ). []) (append_known talk.sent bytes) }) =
    λ i. Some (record { input = talk.input; left = whole i; sent = sent i }) in
    same ∙ ap (option_map as_begun) (sym is)

-- a fault has its cause in the counts of a link that had just come in
cause_begun : (fresh link : AtLink) (talk : Talk) (result : Result Ended SessionFault) → IsUnused fresh → IfErr result (HasCause fresh link)
    → IfErr result (HasCause (link_begun (talk_over link talk)) (link_ended (talk_over link talk)))
cause_begun fresh link talk (Ok ended) new cause = tt
cause_begun fresh link talk (Err (fault.Torn have want)) new cause = tt
cause_begun fresh link talk (Err (fault.TooLong size)) new cause = tt
cause_begun fresh link talk (Err fault.ReadFault) new cause = subst (λ n. Rose n link.read_faults) new.no_read_fault cause
cause_begun fresh link talk (Err fault.WriteFault) new cause = subst (λ n. Rose n link.write_faults) new.no_write_fault cause

-- a session over a link that had just come in
pub session_held : (place : Place) (from to : Standing) (fresh link : AtLink) (result : Result Ended SessionFault) → IsUnused fresh
    → Conversed place from fresh.talk result to link.talk → IfErr result (HasCause fresh link)
    → IfSome fresh.talk (λ _. HoldsTalk IsServedTalk place from link to)
session_held place from to fresh link result new c cause = by_talks fresh.talk link.talk refl new.fresh c
  where
    by_talks : (first told : Option Talk) → link.talk ≡ told → IsFresh first → Conversed place from first result to told
        → IfSome first (λ _. HoldsTalk IsServedTalk place from link to)
    by_talks None told is unsaid then = tt
    by_talks (Some first) None is unsaid then =
        let clash : None ≡ with_sent (with_taken (Some first) (length (bytes_taken then.exchanges ++ then.last))) then.sent = then.passes.after_is in
        absurd (cc)
    by_talks (Some first) (Some now) is unsaid then = record {
      talk = now;
      told_is = is;
      so = record {
        result = result;
        conversed = subst (λ talk. Conversed place from talk result to (Some now))
            (begun first (Some now) (length (bytes_taken then.exchanges ++ then.last)) then.sent unsaid then.passes.after_is) then;
        cause = cause_begun fresh link now result new cause;
      };
    }

pub session_moves : (place : Place) (from to : Standing) (fresh told : Option Talk) (result : Result Ended SessionFault) → Conversed place from fresh result to told
    → MovesOn (λ _. ⊥) place from to
session_moves place from to fresh told result c =
    let onward = run_onward place Start from c.exchanges to c.serves in
    record { extends = onward.extends.begins; holds = onward.holds; quiet = λ none. absurd none }
