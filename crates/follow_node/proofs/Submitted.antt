-- Edits that are accepted one after the other.
use Rattle.std.proofs.Common.{◌≡◌, ◌==◌, ℕ, suc, ◌+◌, ◌<◌, ◌≤◌, Bool, false, cond, List, [], ◌∷◌, ◌++◌, length, take, drop, get_or, refl, sym, subst, ap, ◌∙◌, arith}
use Rattle.std.specs.List.{fold}
use Rattle.std.proofs.lemmas.Bool.Decides.{nat_tests}
use Rattle.std.proofs.lemmas.List.{append-nil, append_assoc, map-append, take-append-drop, take_all, take_more}
use Rattle.std.proofs.lemmas.List.Sums.{fold-append}
use Rattle.edit_log.specs.declared.edit.Edit.{Edit}
use Rattle.edit_log.specs.Verdicts.{MayBeAccepted}
use Rattle.path_core.specs.declared.entry.Entry.{Entry}
use Rattle.path_core.specs.declared.entry.Entry.TheVariants.{Accept}
use Rattle.path_core.specs.Histories.{accepted_count, edits_of, map_now, prefix_after, published_prefix, IsLegal}
use Rattle.path_core.proofs.Bounds.{legal_histories_are_bounded}
use Rattle.path_core.proofs.Growing.{count_goes_on}
use Rattle.path_core.proofs.LegalHistories.{beginnings_are_legal, one_more_is_legal}
use Rattle.follow_node.specs.declared.faults.FollowFault.{FollowFault}
use Rattle.follow_node.specs.Following.{Followed, accepts, with_edits, with_published}
use Rattle.follow_node.specs.Hearing.{AcceptsAll, IsSubmitFault, SubmitsAll, SubmitsFront}
use Rattle.follow_node.proofs.EditBytes.{next_of}

-- ---- boards with edits

pub with_none : (board : Followed) → with_edits board [] ≡ board
with_none board = λ i. record { start = board.start; order = board.order; history = append-nil board.history i }

pub accepts_both : (one other : List Edit) → accepts (one ++ other) ≡ accepts one ++ accepts other
accepts_both one other = map-append (λ edit. Accept 0 edit) one other

pub with_both : (board : Followed) (one other : List Edit) → with_edits (with_edits board one) other ≡ with_edits board (one ++ other)
with_both board one other = λ i. record {
  start = board.start;
  order = board.order;
  history = (append_assoc board.history (accepts one) (accepts other) ∙ ap (λ l. board.history ++ l) (sym (accepts_both one other))) i;
}

pub edits_accepted : (edits : List Edit) → edits_of (accepts edits) ≡ edits
edits_accepted [] = refl
edits_accepted (edit ∷ edits) = ap (λ l. edit ∷ l) (edits_accepted edits)

none_published : (before : ℕ) (edits : List Edit) → fold prefix_after before (accepts edits) ≡ before
none_published before [] = refl
none_published before (edit ∷ edits) = none_published before edits

pub published_still : (history : List Entry) (edits : List Edit) → published_prefix (history ++ accepts edits) ≡ published_prefix history
published_still history edits = fold-append prefix_after 0 history (accepts edits) ∙ none_published (published_prefix history) edits

pub count_with : (history : List Entry) (edits : List Edit) → accepted_count (history ++ accepts edits) ≡ accepted_count history + length edits
count_with history edits = count_goes_on history (accepts edits) ∙ ap (λ l. accepted_count history + length l) (edits_accepted edits)

-- ---- one after the other

pub none_submitted : (board after : Followed) (edits : List Edit) → IsLegal board.start board.history → after ≡ board → SubmitsAll board (take 0 edits) after
none_submitted board after edits legal same = record {
  can = subst (λ (b : Followed). IsLegal b.start b.history) (sym (with_none board)) legal;
  board = same ∙ sym (with_none board);
}

pub one_more_submitted : (board mid after : Followed) (edits : List Edit) (place : ℕ) → SubmitsAll board (take place edits) mid → place < length edits
    → after ≡ with_edits mid (get_or edits place [] ∷ [])
    → MayBeAccepted (map_now mid.start mid.history) (accepted_count mid.history) (get_or edits place [])
    → SubmitsAll board (take (place + 1) edits) after
one_more_submitted board mid after edits place p below is may =
    let edit : Edit = get_or edits place [] in
    let taken = take place edits in
    let follows = subst (λ (m : Followed). MayBeAccepted (map_now m.start m.history) (accepted_count m.history) edit) p.board may in
    let longer : with_edits (with_edits board taken) (edit ∷ []) ≡ with_edits board (take (place + 1) edits) =
    with_both board taken (edit ∷ []) ∙ ap (with_edits board) (sym (take_more edits place [] below)) in
    record {
      can = subst (λ (b : Followed). IsLegal b.start b.history) longer
          (one_more_is_legal board.start (with_edits board taken).history (Accept 0 edit) p.can follows);
      board = is ∙ ap (λ m. with_edits m (edit ∷ [])) p.board ∙ longer;
    }

pub all_submitted : (board after : Followed) (edits : List Edit) (place : ℕ) → SubmitsAll board (take place edits) after → length edits ≤ place
    → SubmitsAll board edits after
all_submitted board after edits place p past = subst (λ l. SubmitsAll board l after) (take_all place edits past) p

pub front_submitted : (board mid after : Followed) (edits : List Edit) (place at : ℕ) (why : FollowFault) → SubmitsAll board (take place edits) mid
    → place < length edits → after ≡ mid → IsSubmitFault mid (get_or edits place []) at why → SubmitsFront board edits at why after
front_submitted board mid after edits place at why p below same cause = record {
  taken = take place edits;
  next = get_or edits place [];
  rest = drop (place + 1) edits;
  edits_are = sym (take-append-drop place edits) ∙ ap (λ l. take place edits ++ l) (next_of edits place below);
  can = p.can;
  board = same ∙ p.board;
  cause = subst (λ m. IsSubmitFault m (get_or edits place []) at why) (sym same) cause;
}

-- ---- and a version behind them

pub newer : (board after : Followed) (edits : List Edit) → SubmitsAll board edits after → 0 < length edits
    → published_prefix after.history < accepted_count after.history
newer board after edits p some =
    let bounded = legal_histories_are_bounded board.start board.history (beginnings_are_legal board.start board.history (accepts edits) p.can) in
    let published : published_prefix after.history ≡ published_prefix board.history =
    ap (λ (b : Followed). published_prefix b.history) p.board ∙ published_still board.history edits in
    let accepted : accepted_count after.history ≡ accepted_count board.history + length edits =
    ap (λ (b : Followed). accepted_count b.history) p.board ∙ count_with board.history edits in
    omega (arith, bounded.published, published, accepted, some)

pub some_edits : (count : ℕ) (none : Bool) → none ≡ (count == 0) → none ≡ false → 0 < count
some_edits count none is some = grind (arith, nat_tests)

some_left : (n : ℕ) → (suc n == 0) ≡ false
some_left n = grind (arith, nat_tests)

pub all_accepted : (board mid after : Followed) (edits : List Edit) (none : Bool) → SubmitsAll board edits mid → none ≡ (length edits == 0)
    → after ≡ cond none mid (with_published mid) → AcceptsAll board edits after
all_accepted board mid after [] none p is e = record {
  can = p.can;
  board = e ∙ ap (λ n. cond n mid (with_published mid)) is ∙ p.board ∙ with_none board;
}
all_accepted board mid after (edit ∷ edits) none p is e = record {
  can = p.can;
  board = e ∙ ap (λ n. cond n mid (with_published mid)) (is ∙ some_left (length edits)) ∙ ap with_published p.board;
}
