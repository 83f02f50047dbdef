-- How events are kept, as events are added.
use Rattle.std.proofs.Common.{◌≡◌, ℕ, suc, ◌+◌, ◌-◌, ◌≤◌, List, [], ◌∷◌, ◌++◌, length, get_or, All, arith, refl, sym, ap, ◌∙◌}
use Rattle.std.proofs.Math.ListN.{get_or-append}
use Rattle.std.proofs.lemmas.List.{get_or_push, length-append, map-append}
use Rattle.std.proofs.lemmas.List.Elements.{All-push}
use Rattle.edit_log.specs.declared.edit.Edit.{Edit}
use Rattle.edit_log.specs.EditLists.{EditLog}
use Rattle.path_replay.specs.declared.event.Event.TheVariants.{Submit}
use Rattle.path_replay.specs.declared.kept_event.KeptEvent.{KeptEvent}
use Rattle.path_replay.specs.declared.kept_event.KeptEvent.TheVariants.{Submit as KeptSubmit, Look as KeptLook, Query as KeptQuery, Begin as KeptBegin, Row as KeptRow, Publish as KeptPublish, Halt as KeptHalt}
use Rattle.path_replay.specs.KeptEvents.{events_of, event_of, IsPlaced}

-- a further edit leaves what is kept as it is
same_event : (edits more : List Edit) (event : KeptEvent) → IsPlaced (length edits) event → event_of (edits ++ more) event ≡ event_of edits event
same_event edits more (KeptSubmit pass place) placed = ap (Submit pass) (get_or-append edits more [] place placed)
same_event edits more (KeptLook pass) placed = refl
same_event edits more (KeptQuery pass start goal) placed = refl
same_event edits more (KeptBegin pass) placed = refl
same_event edits more (KeptRow pass) placed = refl
same_event edits more (KeptPublish pass) placed = refl
same_event edits more (KeptHalt pass) placed = refl

same_events : (edits more : List Edit) (kept : List KeptEvent) → All (IsPlaced (length edits)) kept
    → events_of (edits ++ more) kept ≡ events_of edits kept
same_events edits more [] placed = refl
same_events edits more (event ∷ kept) placed =
    rw (same_event edits more event (placed 0 event (omega arith)), same_events edits more kept (λ k d lt. placed (suc k) d (omega (arith, lt)))) refl

still_placed : (count more : ℕ) (event : KeptEvent) → count ≤ more → IsPlaced count event → IsPlaced more event
still_placed count more (KeptSubmit pass place) grows placed = omega (arith, placed, grows)
still_placed count more (KeptLook pass) grows placed = tt
still_placed count more (KeptQuery pass start goal) grows placed = tt
still_placed count more (KeptBegin pass) grows placed = tt
still_placed count more (KeptRow pass) grows placed = tt
still_placed count more (KeptPublish pass) grows placed = tt
still_placed count more (KeptHalt pass) grows placed = tt

all_placed : (count more : ℕ) (kept : List KeptEvent) (event : KeptEvent) → count ≤ more → All (IsPlaced count) kept → IsPlaced more event
    → All (IsPlaced more) (kept ++ event ∷ [])
all_placed count more kept event grows placed here =
    All-push (IsPlaced more) kept event (λ k d lt. still_placed count more (get_or kept k d) grows (placed k d lt)) here

-- an event that submits an edit
pub submit_placed : (edits reserved longer : EditLog) (kept between items : List KeptEvent) (pass place : ℕ) (edit : Edit)
    → All (IsPlaced (length edits.edits)) kept → place ≡ length reserved.edits → between ≡ kept → items ≡ between ++ KeptSubmit pass place ∷ []
    → reserved.edits ≡ edits.edits → longer ≡ record { edits = reserved.edits ++ edit ∷ []; spare = reserved.spare - 1 }
    → All (IsPlaced (length longer.edits)) items
submit_placed edits reserved longer kept between items pass place edit placed last eb ei er el =
    let log : longer.edits ≡ edits.edits ++ edit ∷ [] = ap (λ l. l.edits) el ∙ ap (λ e. e ++ edit ∷ []) er in
    let long : length longer.edits ≡ length edits.edits + 1 = ap length log ∙ length-append edits.edits (edit ∷ []) in
    let list : items ≡ kept ++ KeptSubmit pass place ∷ [] = ei ∙ ap (λ k. k ++ KeptSubmit pass place ∷ []) eb in
    rw list (all_placed (length edits.edits) (length longer.edits) kept (KeptSubmit pass place) (omega (arith, long)) placed
    (omega (arith, last, ap length er, long)))

pub submit_added : (edits reserved longer : EditLog) (kept between items : List KeptEvent) (pass place : ℕ) (edit : Edit)
    → All (IsPlaced (length edits.edits)) kept → place ≡ length reserved.edits → between ≡ kept → items ≡ between ++ KeptSubmit pass place ∷ []
    → reserved.edits ≡ edits.edits → longer ≡ record { edits = reserved.edits ++ edit ∷ []; spare = reserved.spare - 1 }
    → events_of longer.edits items ≡ events_of edits.edits kept ++ Submit pass edit ∷ []
submit_added edits reserved longer kept between items pass place edit placed last eb ei er el =
    let log : longer.edits ≡ edits.edits ++ edit ∷ [] = ap (λ l. l.edits) el ∙ ap (λ e. e ++ edit ∷ []) er in
    let list : items ≡ kept ++ KeptSubmit pass place ∷ [] = ei ∙ ap (λ k. k ++ KeptSubmit pass place ∷ []) eb in
    rw (log, list) (map-append (event_of (edits.edits ++ edit ∷ [])) kept (KeptSubmit pass place ∷ [])
    ∙ ap (λ h. h ++ Submit pass (get_or (edits.edits ++ edit ∷ []) place []) ∷ []) (same_events edits.edits (edit ∷ []) kept placed)
    ∙ ap (λ e. events_of edits.edits kept ++ Submit pass e ∷ []) (get_or_push edits.edits edit [] place (sym (last ∙ ap length er))))

-- another event
pub other_placed : (edits : List Edit) (kept items : List KeptEvent) (event : KeptEvent) → All (IsPlaced (length edits)) kept
    → IsPlaced 0 event → items ≡ kept ++ event ∷ [] → All (IsPlaced (length edits)) items
other_placed edits kept items event placed other is =
    rw is (all_placed (length edits) (length edits) kept event (omega arith) placed (still_placed 0 (length edits) event (omega arith) other))

pub other_added : (edits : List Edit) (kept items : List KeptEvent) (event : KeptEvent) → IsPlaced 0 event → items ≡ kept ++ event ∷ []
    → events_of edits items ≡ events_of edits kept ++ event_of [] event ∷ []
other_added edits kept items event other is =
    ap (events_of edits) is ∙ map-append (event_of edits) kept (event ∷ [])
    ∙ ap (λ e. events_of edits kept ++ e ∷ []) (same_event [] edits event other)
