-- What passes hold and build, as the history grows.
use Rattle.std.proofs.Common.{◌≡◌, ℕ, ◌≤◌, List, [], ◌∷◌, ◌++◌, get_or, take, drop, All, Option, Some, None, IfSome, sym, ap, ◌∙◌, arith}
use Rattle.std.proofs.lemmas.List.{append-nil, take-append-drop}
use Rattle.std.proofs.lemmas.List.Elements.{All-push, All-drop}
use Rattle.std.proofs.lemmas.List.Sums.{fold_push}
use Rattle.moves.specs.Maps.{Map}
use Rattle.versions.specs.Databases.{Versioned}
use Rattle.version_build.specs.Builders.{Building}
use Rattle.edit_log.specs.declared.edit.Edit.{Edit}
use Rattle.edit_log.specs.Edits.{ChangesInside, EditsInside, edited, map_after}
use Rattle.edit_log.specs.EditLaws.{HasSameSides}
use Rattle.edit_log.specs.Verdicts.{MayBeAccepted}
use Rattle.edit_log.proofs.EditedMaps.{changes_inside_too, edits_keep_sides, edits_go_on as maps_go_on}
use Rattle.path_core.specs.declared.entry.Entry.{Entry}
use Rattle.path_core.specs.declared.entry.Entry.TheVariants.{Accept, Publish}
use Rattle.path_core.specs.Boards.{Boarded, with_entry, with_version}
use Rattle.path_core.specs.Histories.{accepted_count, edits_of, map_at, map_now}
use Rattle.path_core.proofs.Growing.{count_goes_on, edits_go_on, map_stays, version_stays}
use Rattle.path_replay.specs.Inside.{Grows, Holding, IsOpen, IsReplayable, IsSound}

-- ---- a board that grows

pub same_grown : (old new : Boarded) → new ≡ old → Grows old new
same_grown old new same = record {
  start = ap (λ b. b.start) same;
  order = ap (λ b. b.order) same;
  room = ap (λ b. b.room) same;
  more = [];
  history = ap (λ b. b.history) same ∙ sym (append-nil old.history);
}

pub entry_grown : (old new : Boarded) (entry : Entry) → new ≡ with_entry old entry → Grows old new
entry_grown old new entry is = record {
  start = ap (λ b. b.start) is;
  order = ap (λ b. b.order) is;
  room = ap (λ b. b.room) is;
  more = entry ∷ [];
  history = ap (λ b. b.history) is;
}

pub version_grown : (old new : Boarded) (pass : ℕ) (version : Versioned) → new ≡ with_version old pass version → Grows old new
version_grown old new pass version is = record {
  start = ap (λ b. b.start) is;
  order = ap (λ b. b.order) is;
  room = ap (λ b. b.room) is;
  more = Publish pass version.prefix ∷ [];
  history = ap (λ b. b.history) is;
}

module _ (old new : Boarded) (g : Grows old new) where
  count_grown : (prefix : ℕ) → prefix ≤ accepted_count old.history → prefix ≤ accepted_count new.history
  count_grown prefix within = rw g.history (omega (arith, within, count_goes_on old.history g.more))

  open_grown : (building : Option Building) → IfSome building (IsOpen old) → IfSome building (IsOpen new)
  open_grown None is = tt
  open_grown (Some b) is = record {
    map = rw (g.start, g.history) (is.map ∙ sym (map_stays old.start old.history g.more b.plan.prefix is.within));
    order = is.order ∙ sym g.order;
    within = count_grown b.plan.prefix is.within;
  }

  pub sound_grown : (pass : Holding) → IsSound old pass → IsSound new pass
  sound_grown pass is = record {
    version = rw (g.start, g.order, g.history) (version_stays old.start old.order old.history g.more pass.version.prefix pass.version is.within is.version);
    within = count_grown pass.version.prefix is.within;
    building = open_grown pass.building is.building;
  }

  pub all_sound_grown : (passes : List Holding) → All (IsSound old) passes → All (IsSound new) passes
  all_sound_grown passes all = λ k d lt. sound_grown (get_or passes k d) (all k d lt)

-- ---- edits lie inside, and the map may be searched

back : (map other : Map) → HasSameSides map other → HasSameSides other map
back map other same = record { width = sym same.width; height = sym same.height; cells = sym same.cells }

pub accept_replayable : (old new : Boarded) (pass : ℕ) (edit : Edit) → IsReplayable old
    → MayBeAccepted (map_now old.start old.history) (accepted_count old.history) edit → new ≡ with_entry old (Accept pass edit) → IsReplayable new
accept_replayable old new pass edit is may made =
    let start : new.start ≡ old.start = ap (λ b. b.start) made in
    let history : new.history ≡ old.history ++ Accept pass edit ∷ [] = ap (λ b. b.history) made in
    let edits : edits_of (old.history ++ Accept pass edit ∷ []) ≡ edits_of old.history ++ edit ∷ [] = edits_go_on old.history (Accept pass edit ∷ []) in
    let sides = edits_keep_sides old.start (edits_of old.history) in
    let inside = changes_inside_too (map_now old.start old.history) old.start edit (back _ _ sides) may.inside in
    let last : map_after old.start (edits_of old.history ++ edit ∷ []) ≡ edited (map_now old.start old.history) edit = fold_push edited old.start (edits_of old.history) edit in
    record {
      inside = rw (start, history, edits) (All-push (ChangesInside old.start) (edits_of old.history) edit is.inside inside);
      searchable = rw (start, history, edits, last) may.few;
    }

-- an entry that accepts no edit changes neither
pub other_replayable : (old new : Boarded) → IsReplayable old → new.start ≡ old.start → edits_of new.history ≡ edits_of old.history → IsReplayable new
other_replayable old new is start edits = record { inside = rw (start, edits) is.inside; searchable = rw (start, edits) is.searchable }

pub no_edit : (history after : List Entry) (entry : Entry) → after ≡ history ++ entry ∷ [] → edits_of (entry ∷ []) ≡ [] → edits_of after ≡ edits_of history
no_edit history after entry is none =
    ap edits_of is ∙ edits_go_on history (entry ∷ []) ∙ ap (λ edits. edits_of history ++ edits) none ∙ append-nil (edits_of history)

-- ---- the edits of a job

-- they lie inside the map that they follow
pub job_inside : (board : Boarded) (map : Map) (known : ℕ) (edits : List Edit) → IsReplayable board → map ≡ map_at board.start board.history known
    → edits ≡ drop known (edits_of board.history) → EditsInside map edits
job_inside board map known edits is same rest =
    let sides = edits_keep_sides board.start (take known (edits_of board.history)) in
    rw (same, rest) (λ k d lt. changes_inside_too board.start (map_at board.start board.history known) (get_or (drop known (edits_of board.history)) k d) sides
    (All-drop (ChangesInside board.start) known (edits_of board.history) is.inside k d lt))

-- and lead to the map now
pub job_leads : (board : Boarded) (map : Map) (known : ℕ) (edits : List Edit) → map ≡ map_at board.start board.history known
    → edits ≡ drop known (edits_of board.history) → map_after map edits ≡ map_now board.start board.history
job_leads board map known edits same rest =
    rw (same, rest) (sym (maps_go_on board.start (take known (edits_of board.history)) (drop known (edits_of board.history)))
    ∙ ap (map_after board.start) (take-append-drop known (edits_of board.history)))
