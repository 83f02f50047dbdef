-- The accepted edits of a leader's history, accepted again on a board of a follower.
use Rattle.std.proofs.Common.{◌≡◌, ℕ, ◌≤◌, List, [], ◌∷◌, ◌++◌, length, take, drop, refl, sym, subst, ap, ◌∙◌, length-append, arith}
use Rattle.std.proofs.lemmas.List.{append-nil, append_assoc, drop-append-le, take-append-drop}
use Rattle.moves.specs.Maps.{Map}
use Rattle.edit_log.specs.declared.edit.Edit.{Edit}
use Rattle.edit_log.specs.Edits.{map_after}
use Rattle.edit_log.specs.Verdicts.{MayBeAccepted}
use Rattle.path_core.specs.declared.entry.Entry.{Entry}
use Rattle.path_core.specs.declared.entry.Entry.TheVariants.{Accept, Publish, Halt}
use Rattle.path_core.specs.Histories.{accepted_count, edits_of, IsLegal}
use Rattle.path_core.specs.Passes.{BeginsWith}
use Rattle.path_core.proofs.Growing.{edits_go_on}
use Rattle.path_core.proofs.LegalHistories.{one_more_is_legal}
use Rattle.follow_proto.specs.declared.TheConstants.{MAX_SENT}
use Rattle.follow_node.specs.Following.{accepts}

pub count_few : (history : List Entry) → accepted_count history ≤ length history
count_few [] = omega arith
count_few (Accept pass edit ∷ history) = let few = count_few history in omega arith
count_few (Publish pass prefix ∷ history) = let few = count_few history in omega arith
count_few (Halt pass ∷ history) = let few = count_few history in omega arith

-- where an accepted edit stands in a history
record IsAccepted (history : List Entry) (front : List Edit) (edit : Edit) : Type 0 where
  pub before : List Entry
  pub pass : ℕ
  pub later : List Entry
  pub is : history ≡ before ++ Accept pass edit ∷ later
  pub front_is : edits_of before ≡ front

accepted_at : (history : List Entry) (front : List Edit) (edit : Edit) (tail : List Edit) → edits_of history ≡ front ++ edit ∷ tail → IsAccepted history front edit
accepted_at [] front edit tail e = absurd (omega (arith, ap length e, length-append front (edit ∷ tail)))
accepted_at (Publish pass prefix ∷ history) front edit tail e =
    let p = accepted_at history front edit tail e in
    record { before = Publish pass prefix ∷ p.before; pass = p.pass; later = p.later; is = ap (λ l. Publish pass prefix ∷ l) p.is; front_is = p.front_is }
accepted_at (Halt pass ∷ history) front edit tail e =
    let p = accepted_at history front edit tail e in
    record { before = Halt pass ∷ p.before; pass = p.pass; later = p.later; is = ap (λ l. Halt pass ∷ l) p.is; front_is = p.front_is }
accepted_at (Accept pass first ∷ history) [] edit tail e =
    let same : first ≡ edit = cc in
    record { before = []; pass = pass; later = history; is = ap (λ x. Accept pass x ∷ history) same; front_is = refl }
accepted_at (Accept pass first ∷ history) (x ∷ front) edit tail e =
    let same : first ≡ x = cc in
    let rest : edits_of history ≡ front ++ edit ∷ tail = cc in
    let p = accepted_at history front edit tail rest in
    record {
      before = Accept pass first ∷ p.before;
      pass = p.pass;
      later = p.later;
      is = ap (λ l. Accept pass first ∷ l) p.is;
      front_is = ap (λ l. first ∷ l) p.front_is ∙ ap (λ y. y ∷ front) same;
    }

may_again : (start : Map) (history : List Entry) (front : List Edit) (edit : Edit) (tail : List Edit) → IsLegal start history
    → edits_of history ≡ front ++ edit ∷ tail → MayBeAccepted (map_after start front) (length front) edit
unfolding IsLegal
may_again start history front edit tail legal e =
    let at = accepted_at history front edit tail e in
    subst (λ l. MayBeAccepted (map_after start l) (length l) edit) at.front_is (legal at.before (Accept at.pass edit) at.later at.is)

-- edits that were accepted behind the same ones can be accepted there
pub legal_again : (start : Map) (history own : List Entry) (edits tail : List Edit) → IsLegal start history → IsLegal start own
    → edits_of history ≡ edits_of own ++ (edits ++ tail) → IsLegal start (own ++ accepts edits)
legal_again start history own [] tail legal mine e = subst (IsLegal start) (sym (append-nil own)) mine
legal_again start history own (edit ∷ edits) tail legal mine e =
    let next : List Entry = own ++ Accept 0 edit ∷ [] in
    let longer : edits_of next ≡ edits_of own ++ edit ∷ [] = edits_go_on own (Accept 0 edit ∷ []) in
    let still : edits_of history ≡ edits_of next ++ (edits ++ tail) =
    e ∙ sym (append_assoc (edits_of own) (edit ∷ []) (edits ++ tail)) ∙ ap (λ l. l ++ (edits ++ tail)) (sym longer) in
    let goes = one_more_is_legal start own (Accept 0 edit) mine (may_again start history (edits_of own) edit (edits ++ tail) legal e) in
    subst (IsLegal start) (append_assoc own (Accept 0 edit ∷ []) (accepts edits)) (legal_again start history next edits tail legal goes still)

-- the edits of a message are the next of a history that goes on from its point
pub record AreNext (history : List Entry) (known : ℕ) (edits : List Edit) : Type 0 where
  pub tail : List Edit
  pub is : drop known (edits_of history) ≡ edits ++ tail

pub next_edits : (history point : List Entry) (known : ℕ) (edits : List Edit) → BeginsWith history point → known ≤ accepted_count point
    → edits ≡ take MAX_SENT (drop known (edits_of point)) → AreNext history known edits
next_edits history point known edits goes within are =
    let all : edits_of history ≡ edits_of point ++ edits_of goes.rest = ap edits_of goes.is ∙ edits_go_on point goes.rest in
    let later : List Edit = drop MAX_SENT (drop known (edits_of point)) in
    record {
      tail = later ++ edits_of goes.rest;
      is = ap (drop known) all ∙ drop-append-le known (edits_of point) (edits_of goes.rest) within
          ∙ ap (λ l. l ++ edits_of goes.rest) (sym (take-append-drop MAX_SENT (drop known (edits_of point))) ∙ ap (λ l. l ++ later) (sym are))
          ∙ append_assoc edits later (edits_of goes.rest);
    }
