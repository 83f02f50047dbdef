-- What passes have seen, as the history grows, and the edits that were accepted.
use Rattle.std.proofs.Common.{◌≡◌, ◌≢◌, ℕ, ◌≤◌, List, [], ◌∷◌, ◌++◌, length, get_or, take, drop, sym, subst, ap, ◌∙◌, arith}
use Rattle.std.proofs.lemmas.List.{append-nil, append_assoc, take-append-drop}
use Rattle.std.proofs.lemmas.List.Elements.{All-append, All-drop, All-push}
use Rattle.std.proofs.lemmas.List.Sums.{fold_push}
use Rattle.moves.specs.Maps.{Map, IsSearchable}
use Rattle.edit_log.specs.Edits.{ChangesInside, EditsInside, edited, map_after}
use Rattle.edit_log.specs.EditLaws.{HasSameSides}
use Rattle.edit_log.proofs.EditedMaps.{changes_inside_too, edits_keep_sides, edits_go_on as maps_go_on}
use Rattle.path_core.specs.declared.entry.Entry.{Entry}
use Rattle.path_core.specs.declared.entry.Entry.TheVariants.{Accept, Publish, Halt}
use Rattle.path_core.specs.Histories.{accepted_count, edits_of, map_at, map_now, IsLegal, MayFollow}
use Rattle.path_core.specs.Passes.{pass_of, AddsOwn, BeginsWith, OthersAdd}
use Rattle.path_core.proofs.Growing.{count_goes_on, edits_go_on}
use Rattle.path_core.proofs.LegalHistories.{onward}

-- ---- what passes have seen

pub others_none : (pass : ℕ) (seen : List Entry) → OthersAdd pass seen seen
others_none pass seen = record { more = []; grown = sym (append-nil seen); none = λ k d lt. absurd (omega arith) }

pub others_then : (pass : ℕ) (old mid new : List Entry) → OthersAdd pass old mid → OthersAdd pass mid new → OthersAdd pass old new
others_then pass old mid new p q = record {
  more = p.more ++ q.more;
  grown = q.grown ∙ ap (λ l. l ++ q.more) p.grown ∙ append_assoc old p.more q.more;
  none = All-append (λ entry. pass_of entry ≢ pass) p.more q.more p.none q.none;
}

-- entries of others in front of an own one
pub own_behind : (pass : ℕ) (entry : Entry) (old mid new : List Entry) → OthersAdd pass old mid → AddsOwn pass entry mid new → AddsOwn pass entry old new
own_behind pass entry old mid new p q = record { between = q.between; others = others_then pass old mid q.between p q.others; own = q.own }

pub others_begin : (pass : ℕ) (old new : List Entry) → OthersAdd pass old new → BeginsWith new old
others_begin pass old new p = record { rest = p.more; is = p.grown }

pub begins_itself : (seen : List Entry) → BeginsWith seen seen
begins_itself seen = record { rest = []; is = sym (append-nil seen) }

pub begins_then : (old mid new : List Entry) → BeginsWith mid old → BeginsWith new mid → BeginsWith new old
begins_then old mid new p q = record { rest = p.rest ++ q.rest; is = q.is ∙ ap (λ l. l ++ q.rest) p.is ∙ append_assoc old p.rest q.rest }

pub own_begins : (pass : ℕ) (entry : Entry) (old new : List Entry) → AddsOwn pass entry old new → BeginsWith new old
own_begins pass entry old new p = record {
  rest = p.others.more ++ entry ∷ [];
  is = p.own ∙ ap (λ l. l ++ entry ∷ []) p.others.grown ∙ append_assoc old p.others.more (entry ∷ []);
}

-- as many edits are accepted then, or more
pub count_grows : (old new : List Entry) → BeginsWith new old → accepted_count old ≤ accepted_count new
count_grows old new p =
    subst (λ l. accepted_count old ≤ accepted_count l) (sym p.is) (omega (arith, count_goes_on old p.rest))

-- ---- the edits that were accepted

back : (map other : Map) → HasSameSides map other → HasSameSides other map
back map other same = record { width = sym same.width; height = sym same.height; cells = sym same.cells }

-- an accepted edit lies inside the first map, as those before it do
inside_more : (start : Map) (history : List Entry) (entry : Entry) → MayFollow start history entry
    → EditsInside start (edits_of history) → EditsInside start (edits_of (history ++ entry ∷ []))
inside_more start history (Accept pass edit) may all =
    let sides = edits_keep_sides start (edits_of history) in
    let inside = changes_inside_too (map_now start history) start edit (back _ _ sides) may.inside in
    subst (EditsInside start) (sym (edits_go_on history (Accept pass edit ∷ []))) (All-push (ChangesInside start) (edits_of history) edit all inside)
inside_more start history (Publish pass prefix) may all =
    subst (EditsInside start) (sym (edits_go_on history (Publish pass prefix ∷ []) ∙ append-nil (edits_of history))) all
inside_more start history (Halt pass) may all =
    subst (EditsInside start) (sym (edits_go_on history (Halt pass ∷ []) ∙ append-nil (edits_of history))) all

-- the accepted edits lie inside the first map
pub edits_inside : (start : Map) (history : List Entry) → IsLegal start history → EditsInside start (edits_of history)
edits_inside start history legal =
    onward start (λ h. EditsInside start (edits_of h)) (λ h entry _ may all. inside_more start h entry may all) [] history legal (λ k d lt. absurd (omega arith))

-- the map now may be searched, where the map after some of the accepted edits may
searched_more : (start : Map) (known : ℕ) (history : List Entry) (entry : Entry) → MayFollow start history entry
    → (known ≤ accepted_count history → IsSearchable (map_at start history known) → IsSearchable (map_now start history))
    → known ≤ accepted_count (history ++ entry ∷ []) → IsSearchable (map_at start (history ++ entry ∷ []) known)
    → IsSearchable (map_now start (history ++ entry ∷ []))
searched_more start known history (Accept pass edit) may before within searchable =
    subst (λ edits. IsSearchable (map_after start edits)) (sym (edits_go_on history (Accept pass edit ∷ [])))
    (subst IsSearchable (sym (fold_push edited start (edits_of history) edit)) may.few)
searched_more start known history (Publish pass prefix) may before within searchable =
    let same = edits_go_on history (Publish pass prefix ∷ []) ∙ append-nil (edits_of history) in
    subst (λ edits. IsSearchable (map_after start edits)) (sym same)
    (before (subst (λ edits. known ≤ length edits) same within) (subst (λ edits. IsSearchable (map_after start (take known edits))) same searchable))
searched_more start known history (Halt pass) may before within searchable =
    let same = edits_go_on history (Halt pass ∷ []) ∙ append-nil (edits_of history) in
    subst (λ edits. IsSearchable (map_after start edits)) (sym same)
    (before (subst (λ edits. known ≤ length edits) same within) (subst (λ edits. IsSearchable (map_after start (take known edits))) same searchable))

searched_none : (start : Map) (known : ℕ) → known ≤ 0 → IsSearchable (map_after start (take known [])) → IsSearchable start
searched_none start known none searchable = let e : known ≡ 0 = omega arith in subst (λ n. IsSearchable (map_after start (take n []))) e searchable

pub map_now_searchable : (start : Map) (history : List Entry) (known : ℕ) → IsLegal start history → known ≤ accepted_count history
    → IsSearchable (map_at start history known) → IsSearchable (map_now start history)
map_now_searchable start history known legal =
    onward start (λ h. known ≤ accepted_count h → IsSearchable (map_at start h known) → IsSearchable (map_now start h))
    (λ h entry _ may before. searched_more start known h entry may before) [] history legal (searched_none start known)

-- the edits past so many known ones lie inside the map after those, and lead to the map now
pub job_inside : (start : Map) (history : List Entry) (known : ℕ) → IsLegal start history → EditsInside (map_at start history known) (drop known (edits_of history))
job_inside start history known legal =
    let sides = edits_keep_sides start (take known (edits_of history)) in
    λ k d lt. changes_inside_too start (map_at start history known) (get_or (drop known (edits_of history)) k d) sides
    (All-drop (ChangesInside start) known (edits_of history) (edits_inside start history legal) k d lt)

pub job_leads : (start : Map) (history : List Entry) (known : ℕ) → map_after (map_at start history known) (drop known (edits_of history)) ≡ map_now start history
job_leads start history known =
    sym (maps_go_on start (take known (edits_of history)) (drop known (edits_of history)))
    ∙ ap (map_after start) (take-append-drop known (edits_of history))
