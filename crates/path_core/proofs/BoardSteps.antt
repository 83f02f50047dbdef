-- What a board keeps as entries are made.
use Rattle.std.proofs.Common.{◌≡◌, ◌↔◌, ℕ, ◌+◌, ◌-◌, ◌<◌, ◌≤◌, Bool, true, false, ◌||◌, IsTrue, List, [], ◌∷◌, ◌++◌, length, max, All, Fits, w32, arith, refl, sym, subst, ap, ◌∙◌}
use Rattle.std.specs.List.{list_any}
use Rattle.std.proofs.lemmas.List.{length-append, append-nil}
use Rattle.std.proofs.lemmas.List.Sums.{fold_push}
use Rattle.moves.specs.Maps.{Map}
use Rattle.cell_order.specs.declared.OrderKind.{OrderKind}
use Rattle.versions.specs.Databases.{IsVersion, Versioned}
use Rattle.edit_log.specs.declared.edit.Edit.{Edit}
use Rattle.edit_log.specs.EditLists.{EditLog, edit_list}
use Rattle.edit_log.specs.Edits.{edited, map_after}
use Rattle.edit_log.specs.Verdicts.{MayBeAccepted}
use Rattle.path_core.specs.declared.TheConstants.{MAX_ENTRIES}
use Rattle.path_core.specs.declared.entry.Entry.{Entry}
use Rattle.path_core.specs.declared.kept_entry.KeptEntry.{KeptEntry}
use Rattle.path_core.specs.declared.kept_entry.KeptEntry.TheVariants.{Accept as KeptAccept, Publish as KeptPublish, Halt as KeptHalt}
use Rattle.path_core.specs.declared.entry.Entry.TheVariants.{Accept, Publish, Halt}
use Rattle.path_core.specs.Boards.{Boarded, board_of, IsFirst, MayBePublished}
use Rattle.path_core.specs.Histories.{accepted_count, edits_of, is_halt, map_now, published_count, published_prefix, IsHalting, IsLegal, IsVersionAt}
use Rattle.path_core.specs.Kept.{IsKept}
use Rattle.path_core.specs.KeptEntries.{entries_of, IsPlaced}
use Rattle.path_core.proofs.KeptEntries.{all_placed, edit_added, entry_added}
use Rattle.path_core.proofs.LegalHistories.{none_is_legal, one_more_is_legal}
use Rattle.path_core.proofs.Growing.{edits_go_on, halting_goes_on, prefix_goes_on, publications_go_on, version_stays}
use Rattle.path_core.proofs.Bounds.{IsCounted, counted}

-- the published version of a history is that of the longer one, if the entry is no publication
still_published : (start : Map) (order : OrderKind) (history : List Entry) (entry : Entry) (version : Versioned) → IsLegal start history
    → published_prefix (history ++ entry ∷ []) ≡ published_prefix history
    → IsVersionAt start order history (published_prefix history) version
    → IsVersionAt start order (history ++ entry ∷ []) (published_prefix (history ++ entry ∷ [])) version
still_published start order history entry version legal same is =
    rw same (version_stays start order history (entry ∷ []) (published_prefix history) version (counted start history legal).prefix is)

-- a test on a longer list
still : (was : Bool) (is_halting is : Bool) → is ≡ (is_halting || false) → (IsTrue was ↔ IsTrue is_halting) → IsTrue was ↔ IsTrue is
still was true is e same = rw e same
still was false is e same = rw e same

or_true : (b : Bool) → (b || true) ≡ true
or_true true = refl
or_true false = refl

different : false ≡ true → ⊥
different e = cc

pub first_kept : (start : Map) (version : Versioned) (room capacity : ℕ) (edits : EditLog) (map : Map) → IsFirst start version → IsVersion version
    → map ≡ start → edits.edits ≡ [] → room ≤ MAX_ENTRIES → room ≤ capacity → room ≤ edits.spare
    → IsKept (board_of start [] version room) map edits [] 0 false capacity
first_kept start version room capacity edits map first whole same none few entries spare = record {
  legal = none_is_legal start;
  version = record { map = first.map; after = first.none; order = refl; whole = whole };
  running = same;
  accepted = none;
  placed = λ k d lt. absurd (omega (arith, lt));
  published_is = refl;
  halts = (λ is. is, λ is. is);
  few = few;
  room_for_entries = entries;
  room_for_edits = omega (arith, spare);
}

-- a new board, in the code's own terms
pub start_kept : (grid start : Map) (items : List KeptEntry) (version now : Versioned) (room capacity : ℕ) (none made : EditLog) (map : Map)
    → start ≡ grid → IsFirst grid version → now ≡ version → IsVersion now → map ≡ grid → items ≡ []
    → none ≡ edit_list [] 0 → made.edits ≡ none.edits → made.spare ≡ max none.spare room → room ≤ MAX_ENTRIES → capacity ≡ room
    → IsKept (board_of start (entries_of made.edits items) version room) map made items 0 false capacity
start_kept grid start items version now room capacity none made map eg first ev whole em ei en ee es few ec =
    let clear : made.edits ≡ [] = ee ∙ ap (λ l. l.edits) en in
    let empty : none.spare ≡ 0 = ap (λ l. l.spare) en in
    rw ei (first_kept start version room capacity made map (rw (sym eg) at first) (rw ev at whole) (em ∙ sym eg) clear few (omega (arith, ec))
    (omega (arith, es, empty)))

-- the history with one edit more
pub submit_history : (edits reserved longer : EditLog) (kept between items : List KeptEntry) (pass place : ℕ) (edit : Edit)
    → All (IsPlaced (length edits.edits)) kept → place ≡ length reserved.edits → between ≡ kept → items ≡ between ++ KeptAccept pass place ∷ []
    → reserved.edits ≡ edits.edits → longer ≡ record { edits = reserved.edits ++ edit ∷ []; spare = reserved.spare - 1 }
    → entries_of longer.edits items ≡ entries_of edits.edits kept ++ Accept pass edit ∷ []
submit_history edits reserved longer kept between items pass place edit placed last eb ei er el =
    let log : longer.edits ≡ edits.edits ++ edit ∷ [] = ap (λ l. l.edits) el ∙ ap (λ e. e ++ edit ∷ []) er in
    let list : items ≡ kept ++ KeptAccept pass place ∷ [] = ei ∙ ap (λ k. k ++ KeptAccept pass place ∷ []) eb in
    rw (log, list) (edit_added edits.edits edit kept pass place placed (last ∙ ap length er))

pub submit_kept : (start : Map) (kept_old between items : List KeptEntry) (version : Versioned) (room : ℕ) (map after : Map) (edits reserved longer : EditLog)
    (published : ℕ) (halting : Bool) (capacity more most pass count place : ℕ) (edit : Edit)
    → IsKept (board_of start (entries_of edits.edits kept_old) version room) map edits kept_old published halting capacity
    → count ≡ length edits.edits → MayBeAccepted map count edit → after ≡ edited map edit
    → place ≡ length reserved.edits → between ≡ kept_old → items ≡ between ++ KeptAccept pass place ∷ []
    → reserved.edits ≡ edits.edits → reserved.spare ≡ max edits.spare 1
    → longer ≡ record { edits = reserved.edits ++ edit ∷ []; spare = reserved.spare - 1 }
    → capacity ≤ more → most ≡ more
    → IsKept (board_of start (entries_of longer.edits items) version room) after longer items published halting most
submit_kept start kept_old between items version room map after edits reserved longer published halting capacity more most pass count place edit
    kept counts may made last eb ei er es el ec em =
    let entry : Entry = Accept pass edit in
    let history : List Entry = entries_of edits.edits kept_old in
    let whole : entries_of longer.edits items ≡ history ++ entry ∷ [] =
    submit_history edits reserved longer kept_old between items pass place edit kept.placed last eb ei er el in
    let log : longer.edits ≡ edits.edits ++ edit ∷ [] = ap (λ l. l.edits) el ∙ ap (λ e. e ++ edit ∷ []) er in
    let long : length longer.edits ≡ length edits.edits + 1 = ap length log ∙ length-append edits.edits (edit ∷ []) in
    let list : items ≡ kept_old ++ KeptAccept pass place ∷ [] = ei ∙ ap (λ k. k ++ KeptAccept pass place ∷ []) eb in
    let placed : All (IsPlaced (length longer.edits)) items =
    rw list (all_placed (length edits.edits) (length longer.edits) kept_old (KeptAccept pass place) (omega (arith, long)) kept.placed
    (omega (arith, last, ap length er, long))) in
    let follows : MayBeAccepted (map_now start history) (accepted_count history) edit =
    subst (λ n. MayBeAccepted (map_now start history) n edit) (counts ∙ ap length kept.accepted)
    (subst (λ m. MayBeAccepted m count edit) kept.running may) in
    rw whole (record {
      legal = one_more_is_legal start history entry kept.legal follows;
      version = still_published start version.order history entry version kept.legal (prefix_goes_on history entry) kept.version;
      running = made ∙ ap (λ m. edited m edit) kept.running ∙ sym (fold_push edited start (edits_of history) edit)
          ∙ ap (map_after start) (sym (edits_go_on history (entry ∷ [])));
      accepted = ap (λ l. l.edits) el ∙ ap (λ e. e ++ edit ∷ []) (er ∙ kept.accepted) ∙ sym (edits_go_on history (entry ∷ []));
      placed = placed;
      published_is = omega (arith, kept.published_is, publications_go_on history entry);
      halts = still halting _ _ (halting_goes_on history entry) kept.halts;
      few = kept.few;
      room_for_entries = omega (arith, kept.room_for_entries, ec, em);
      room_for_edits =
          let n : length (history ++ entry ∷ []) ≡ length history + 1 = length-append history (entry ∷ []) in
          let l : longer.spare ≡ reserved.spare - 1 = ap (λ x. x.spare) el in
          omega (arith, n, l, es, kept.room_for_edits);
    })

pub publish_kept : (board : Boarded) (start : Map) (kept_old between items : List KeptEntry) (version next now given : Versioned) (room : ℕ) (map : Map) (edits : EditLog)
    (published : ℕ) (halting : Bool) (capacity more most pass by prefix : ℕ)
    → IsKept (board_of start (entries_of edits.edits kept_old) version room) map edits kept_old published halting capacity
    → board_of start (entries_of edits.edits kept_old) version room ≡ board → MayBePublished board.start board.order board.history next
    → now ≡ version → by ≡ now.prefix → given ≡ next → prefix ≡ given.prefix → by < prefix
    → between ≡ kept_old → items ≡ between ++ KeptPublish pass prefix ∷ []
    → capacity ≤ more → most ≡ more
    → IsKept (board_of start (entries_of edits.edits items) next room) map edits items (published + 1) halting most
publish_kept board start kept_old between items version next now given room map edits published halting capacity more most pass by prefix
    kept seen may_at en eby eg ep newer eb ei ec em =
    let history : List Entry = entries_of edits.edits kept_old in
    let may : MayBePublished start version.order history next = rw (sym seen) at may_at in
    let is : prefix ≡ next.prefix = ep ∙ ap (λ v. v.prefix) eg in
    let was : by ≡ version.prefix = eby ∙ ap (λ v. v.prefix) en in
    let entry : Entry = Publish pass prefix in
    let list : items ≡ kept_old ++ KeptPublish pass prefix ∷ [] = ei ∙ ap (λ k. k ++ KeptPublish pass prefix ∷ []) eb in
    let whole : entries_of edits.edits items ≡ history ++ entry ∷ [] =
    ap (entries_of edits.edits) list ∙ entry_added edits.edits kept_old (KeptPublish pass prefix) in
    let placed : All (IsPlaced (length edits.edits)) items =
    rw list (all_placed (length edits.edits) (length edits.edits) kept_old (KeptPublish pass prefix) (omega arith) kept.placed tt) in
    let at_prefix : published_prefix (history ++ entry ∷ []) ≡ next.prefix = prefix_goes_on history entry ∙ is in
    let stays : IsVersionAt start version.order (history ++ entry ∷ []) next.prefix next =
    version_stays start version.order history (entry ∷ []) next.prefix next may.accepted may.is in
    rw whole (record {
      legal = one_more_is_legal start history entry kept.legal
          (omega (arith, newer, was, kept.version.after), omega (arith, is, may.accepted));
      version = rw at_prefix (record { map = stays.map; after = refl; order = refl; whole = stays.whole });
      running = kept.running ∙ ap (map_after start) (sym (edits_go_on history (entry ∷ []) ∙ append-nil (edits_of history)));
      accepted = kept.accepted ∙ sym (edits_go_on history (entry ∷ []) ∙ append-nil (edits_of history));
      placed = placed;
      published_is = omega (arith, kept.published_is, publications_go_on history entry);
      halts = still halting _ _ (halting_goes_on history entry) kept.halts;
      few = kept.few;
      room_for_entries = omega (arith, kept.room_for_entries, ec, em);
      room_for_edits =
          let n : length (history ++ entry ∷ []) ≡ length history + 1 = length-append history (entry ∷ []) in
          omega (arith, n, kept.room_for_edits);
    })

pub halt_kept : (start : Map) (kept_old between items : List KeptEntry) (version : Versioned) (room : ℕ) (map : Map) (edits : EditLog)
    (published : ℕ) (halting : Bool) (capacity more most pass : ℕ)
    → IsKept (board_of start (entries_of edits.edits kept_old) version room) map edits kept_old published halting capacity
    → halting ≡ false → between ≡ kept_old → items ≡ between ++ KeptHalt pass ∷ []
    → capacity ≤ more → most ≡ more
    → IsKept (board_of start (entries_of edits.edits items) version room) map edits items published true most
halt_kept start kept_old between items version room map edits published halting capacity more most pass kept never eb ei ec em =
    let entry : Entry = Halt pass in
    let history : List Entry = entries_of edits.edits kept_old in
    let list : items ≡ kept_old ++ KeptHalt pass ∷ [] = ei ∙ ap (λ k. k ++ KeptHalt pass ∷ []) eb in
    let whole : entries_of edits.edits items ≡ history ++ entry ∷ [] =
    ap (entries_of edits.edits) list ∙ entry_added edits.edits kept_old (KeptHalt pass) in
    let placed : All (IsPlaced (length edits.edits)) items =
    rw list (all_placed (length edits.edits) (length edits.edits) kept_old (KeptHalt pass) (omega arith) kept.placed tt) in
    let halts : list_any is_halt (history ++ entry ∷ []) ≡ true = halting_goes_on history entry ∙ or_true (list_any is_halt history) in
    let not_yet : IsHalting history → ⊥ = λ is. different (sym never ∙ kept.halts.1 is) in
    rw whole (record {
      legal = one_more_is_legal start history entry kept.legal not_yet;
      version = still_published start version.order history entry version kept.legal (prefix_goes_on history entry) kept.version;
      running = kept.running ∙ ap (map_after start) (sym (edits_go_on history (entry ∷ []) ∙ append-nil (edits_of history)));
      accepted = kept.accepted ∙ sym (edits_go_on history (entry ∷ []) ∙ append-nil (edits_of history));
      placed = placed;
      published_is = omega (arith, kept.published_is, publications_go_on history entry);
      halts = (λ is. halts, λ is. refl);
      few = kept.few;
      room_for_entries = omega (arith, kept.room_for_entries, ec, em);
      room_for_edits =
          let n : length (history ++ entry ∷ []) ≡ length history + 1 = length-append history (entry ∷ []) in
          omega (arith, n, kept.room_for_edits);
    })

-- one publication more can be counted
pub publications_fit : (start : Map) (history : List Entry) (published : ℕ) → IsLegal start history → published ≡ published_count history
    → Fits w32 (published + 1)
publications_fit start history published legal is =
    let c : IsCounted history = counted start history legal in
    omega (arith, is, c.published, c.prefix, c.accepted)
