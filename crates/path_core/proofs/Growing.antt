-- What an entry adds to a history, and what stays.
use Rattle.std.proofs.Common.{◌≡◌, ℕ, ◌+◌, ◌≤◌, Bool, true, false, cond, ◌||◌, List, [], ◌∷◌, ◌++◌, length, take, count_by, arith, refl, sym, ap, ◌∙◌}
use Rattle.std.specs.List.{list_any}
use Rattle.std.proofs.lemmas.List.{length-append, take-append-le, take_all}
use Rattle.std.proofs.lemmas.List.Sums.{fold_push, sum_by-append}
use Rattle.std.proofs.lemmas.List.Folds.{list_any-append}
use Rattle.std.proofs.lemmas.Grind.{flat_map-append}
use Rattle.moves.specs.Maps.{Map}
use Rattle.cell_order.specs.declared.OrderKind.{OrderKind}
use Rattle.versions.specs.Databases.{Versioned}
use Rattle.edit_log.specs.Edits.{map_after}
use Rattle.path_core.specs.declared.entry.Entry.{Entry}
use Rattle.path_core.specs.Histories.{accepted_count, edit_of, edits_of, is_halt, is_publication, map_at, map_now, prefix_after, published_count, published_prefix, IsVersionAt}
use Rattle.path_core.specs.Boards.{MayBePublished}
use Rattle.path_core.specs.HistoryLaws.{AcceptedEditsStay}

pub edits_go_on : (history more : List Entry) → edits_of (history ++ more) ≡ edits_of history ++ edits_of more
edits_go_on history more = flat_map-append edit_of history more

pub count_goes_on : (history more : List Entry) → accepted_count (history ++ more) ≡ accepted_count history + accepted_count more
count_goes_on history more = ap length (edits_go_on history more) ∙ length-append (edits_of history) (edits_of more)

pub prefix_goes_on : (history : List Entry) (entry : Entry) → published_prefix (history ++ entry ∷ []) ≡ prefix_after (published_prefix history) entry
prefix_goes_on history entry = fold_push prefix_after 0 history entry

pub publications_go_on : (history : List Entry) (entry : Entry)
    → published_count (history ++ entry ∷ []) ≡ published_count history + cond {A = ℕ} (is_publication entry) 1 0
publications_go_on history entry =
    let e : published_count (history ++ entry ∷ []) ≡ published_count history + (0 + cond {A = ℕ} (is_publication entry) 1 0) =
    sum_by-append (λ e. cond {A = ℕ} (is_publication e) 1 0) history (entry ∷ []) in
    omega (arith, e)

pub halts_go_on : (history : List Entry) (entry : Entry)
    → count_by is_halt (history ++ entry ∷ []) ≡ count_by is_halt history + cond {A = ℕ} (is_halt entry) 1 0
halts_go_on history entry =
    let e : count_by is_halt (history ++ entry ∷ []) ≡ count_by is_halt history + (0 + cond {A = ℕ} (is_halt entry) 1 0) =
    sum_by-append (λ e. cond {A = ℕ} (is_halt e) 1 0) history (entry ∷ []) in
    omega (arith, e)

or_false : (b : Bool) → (b || false) ≡ b
or_false true = refl
or_false false = refl

pub halting_goes_on : (history : List Entry) (entry : Entry) → list_any is_halt (history ++ entry ∷ []) ≡ (list_any is_halt history || is_halt entry)
halting_goes_on history entry = list_any-append is_halt history (entry ∷ []) ∙ ap (λ b. list_any is_halt history || b) (or_false (is_halt entry))

-- the map after so many accepted edits stays
pub map_stays : (start : Map) (history more : List Entry) (prefix : ℕ) → prefix ≤ accepted_count history
    → map_at start (history ++ more) prefix ≡ map_at start history prefix
map_stays start history more prefix within =
    ap (λ edits. map_after start (take prefix edits)) (edits_go_on history more)
    ∙ ap (map_after start) (take-append-le prefix (edits_of history) (edits_of more) within)

-- the map after all of them is the map now
pub map_at_all : (start : Map) (history : List Entry) → map_at start history (accepted_count history) ≡ map_now start history
map_at_all start history = ap (map_after start) (take_all (accepted_count history) (edits_of history) (omega arith))

pub version_stays : (start : Map) (order : OrderKind) (history more : List Entry) (prefix : ℕ) (version : Versioned) → prefix ≤ accepted_count history
    → IsVersionAt start order history prefix version → IsVersionAt start order (history ++ more) prefix version
version_stays start order history more prefix version within is = record {
  map = is.map ∙ sym (map_stays start history more prefix within);
  after = is.after;
  order = is.order;
  whole = is.whole;
}

pub publication_stays : (start : Map) (order : OrderKind) (history more : List Entry) (version : Versioned)
    → MayBePublished start order history version → MayBePublished start order (history ++ more) version
publication_stays start order history more version may = record {
  accepted = omega (arith, may.accepted, count_goes_on history more);
  is = version_stays start order history more version.prefix version may.accepted may.is;
}

pub accepted_edits_stay : AcceptedEditsStay
accepted_edits_stay start order history more = record {
  accepted = omega (arith, count_goes_on history more);
  maps = map_stays start history more;
  versions = version_stays start order history more;
  publications = publication_stays start order history more;
  answers = λ prefix from goal answer within is. record {
    version = is.version;
    is_version = version_stays start order history more prefix is.version within is.is_version;
    answers = is.answers;
  };
}
