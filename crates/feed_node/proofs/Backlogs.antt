-- What a feed has of the accepted edits, as others accept more.
use Rattle.std.proofs.Common.{◌≡◌, ℕ, ◌^◌, ◌<◌, ◌≤◌, List, [], ◌++◌, length, take, drop, refl, sym, subst, ap, ◌∙◌, length-append, arith}
use Rattle.std.proofs.lemmas.List.{append-nil, append_assoc, drop-append-le, drop-drop, length-drop, take-append-le}
use Rattle.edit_log.specs.declared.edit.Edit.{Edit}
use Rattle.path_core.specs.declared.entry.Entry.{Entry}
use Rattle.path_core.specs.Histories.{accepted_count, edits_of}
use Rattle.path_core.specs.Passes.{BeginsWith}
use Rattle.path_core.proofs.Growing.{edits_go_on}
use Rattle.path_core.proofs.Passing.{begins_itself, count_grows}
use Rattle.follow_proto.specs.declared.TheConstants.{MAX_SENT}
use Rattle.feed_node.specs.declared.backlog.Finding.TheVariants as found
use Rattle.feed_node.specs.Feeds.{Answers}
use Rattle.feed_node.specs.Looking.{HasFull, IsBacklog, told_of}

-- no edits are a backlog of any history
pub backlog_none : (seen : List Entry) (known : ℕ) (edits : List Edit) → known ≡ 0 → edits ≡ [] → IsBacklog seen known edits
backlog_none seen known edits zero none =
    subst (λ k. IsBacklog seen k edits) (sym zero) (subst (IsBacklog seen 0) (sym none) (record { within = omega arith; rest = edits_of seen; are = refl }))

-- so are all that a board gives
pub backlog_all : (seen : List Entry) (known : ℕ) (edits : List Edit) → known ≤ accepted_count seen → edits ≡ drop known (edits_of seen)
    → IsBacklog seen known edits
backlog_all seen known edits within is = record { within = within; rest = []; are = sym is ∙ sym (append-nil edits) }

module _ (seen now : List Entry) (grows : BeginsWith now seen) (known : ℕ) (edits : List Edit) (p : IsBacklog seen known edits) where
  pub backlog_stays : IsBacklog now known edits
  backlog_stays =
      let more : edits_of now ≡ edits_of seen ++ edits_of grows.rest = ap edits_of grows.is ∙ edits_go_on seen grows.rest in
      record {
        within = omega (arith, p.within, count_grows seen now grows);
        rest = p.rest ++ edits_of grows.rest;
        are = ap (drop known) more ∙ drop-append-le known (edits_of seen) (edits_of grows.rest) p.within
            ∙ ap (λ l. l ++ edits_of grows.rest) p.are ∙ append_assoc edits p.rest (edits_of grows.rest);
      }

-- the edits of a message that are in the backlog
pub full_answers : (before now : List Entry) (from : ℕ) (edits : List Edit) (known place : ℕ) → known < 2 ^ 32 → BeginsWith now before → IsBacklog now from edits
    → HasFull from edits known place → Answers before (told_of known edits (found.Edits place)) now
full_answers before now from edits known place low grows p q =
    let behind : drop known (edits_of now) ≡ drop place edits ++ p.rest =
    ap (λ n. drop n (edits_of now)) q.is ∙ sym (drop-drop place from (edits_of now)) ∙ ap (drop place) p.are
    ∙ drop-append-le place edits p.rest (omega (arith, q.full)) in
    let long = length-drop place edits in
    let left = ap length p.are in
    let rest = length-drop from (edits_of now) in
    let both = length-append edits p.rest in
    record {
      low = low;
      point = now;
      goes = grows;
      on = begins_itself now;
      says = (
        omega (arith, p.within, q.is, q.full, left, rest, both),
        refl,
        sym (ap (take MAX_SENT) behind ∙ take-append-le MAX_SENT (drop place edits) p.rest (omega (arith, q.full, long))),
      );
    }

-- fewer edits were accepted
pub ahead_answers : (before now : List Entry) (edits : List Edit) (known accepted : ℕ) → known < 2 ^ 32 → BeginsWith now before → accepted ≡ accepted_count now
    → accepted < known → Answers before (told_of known edits (found.Ahead accepted)) now
ahead_answers before now edits known accepted low grows is less = record { low = low; point = now; goes = grows; on = begins_itself now; says = (is, less) }

-- not fewer were, and all that are not known were given
pub job_answers : (before point now : List Entry) (edits : List Edit) (known : ℕ) → known < 2 ^ 32 → BeginsWith point before → BeginsWith now point
    → known ≤ accepted_count point → edits ≡ drop known (edits_of now) → Answers before (told_of known edits (found.Edits 0)) now
job_answers before point now edits known low goes on within is = record { low = low; point = point; goes = goes; on = on; says = (within, refl, ap (take MAX_SENT) is) }

-- or there was no memory for them
pub none_answers : (before point now : List Entry) (edits : List Edit) (known : ℕ) → known < 2 ^ 32 → BeginsWith point before → BeginsWith now point
    → known ≤ accepted_count point → Answers before (told_of known edits found.NoMemory) now
none_answers before point now edits known low goes on within = record { low = low; point = point; goes = goes; on = on; says = within }
