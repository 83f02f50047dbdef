-- What holds of the memory of a search: when it is made, and after a search.
use Rattle.std.proofs.Common.{◌≡◌, ℕ, min, ◌*◌, ◌<◌, ◌≤◌, None, List, length, get_or, take, replicate, map, sym, ap, ◌∙◌, subst, inl, inr, arith, All, Any}
use Rattle.std.proofs.lemmas.Bool.{cases_lt}
use Rattle.std.proofs.lemmas.List.{get_or_default, length-replicate, same_lists, get_or-map, get_or-take, length-map, length-take-le}
use Rattle.moves.specs.declared.Cell.{Cell}
use Rattle.moves.specs.Maps.{Map, IsPassable, IsWithinLimits, place_of, cell_at, passable_count, IsSearchable}
use Rattle.root_cost.specs.Keys.{cost_if_key}
use Rattle.grid_search.specs.Keys.{key_at}
use Rattle.grid_search.specs.Searches.{Searched, key_or_none, HasSearched}
use Rattle.grid_search.specs.Kept.{IsKept, IsWithin, HasRoom}
use Rattle.grid_search.specs.Queues.{Queues, Opened, opened, empty_queues}
use Rattle.grid_search.specs.Settling.{IsReached, IsFinished}
use Rattle.grid_search.proofs.Keyed.{proper_none, proper_some}
use Rattle.moves.proofs.OneValue.{one_value}
use Rattle.moves.proofs.RowMajor.{place_of_cell_at}
use Rattle.grid_search.proofs.Places.{cell_inside}
use Rattle.grid_search.proofs.Found.{settled_count}
use Rattle.root_cost.specs.declared.TheConstants.{NO_KEY}
use Rattle.moves.specs.declared.TheConstants.{MAX_PASSABLE}

proper_if_none : (key : ℕ) → key ≡ NO_KEY → key_or_none (cost_if_key key) ≡ key
proper_if_none key e = subst (λ k. key_or_none (cost_if_key k) ≡ k) (sym e) proper_none

pub same_room : (cells room same other : ℕ) → same ≡ cells → other ≡ room → HasRoom cells room → HasRoom same other
same_room cells room same other e f has = subst (λ n. HasRoom n other) (sym e) (subst (HasRoom cells) (sym f) has)

pub least_room : (cells : ℕ) → HasRoom cells (min cells MAX_PASSABLE)
least_room cells = elim (cases_lt cells MAX_PASSABLE) [ inl below ↦ inl (omega arith) | inr above ↦ inr (omega arith) ]

-- a search that was just made
pub kept_new : (n reach : ℕ) (keys : List ℕ) (queues : Queues) (order : List Cell) (filler : Cell) → HasRoom n reach → keys ≡ replicate n NO_KEY
    → queues ≡ empty_queues reach → order ≡ replicate reach filler → IsKept 0 0 (opened keys queues) order 0
kept_new n reach keys queues order filler room none_set made filled =
    let none : (place : ℕ) → get_or keys place NO_KEY ≡ NO_KEY = λ place. ap (λ list. get_or list place NO_KEY) none_set ∙ one_value n place NO_KEY in
    let long : length keys ≡ n = ap length none_set ∙ length-replicate n NO_KEY in
    record {
      columns = omega arith;
      rows = omega arith;
      fits = omega arith;
      order_room = same_room n reach (length keys) (length order) long (ap length filled ∙ length-replicate reach filler) room;
      straight_room = same_room n reach (length keys) queues.straight.room long (ap (λ q. q.straight.room) made) room;
      diagonal_room = same_room n reach (length keys) queues.diagonal.room long (ap (λ q. q.diagonal.room) made) room;
      counted = omega arith;
      inside = λ k d h. absurd (omega arith);
      written = λ place some. absurd (some (none place));
      proper = λ place. proper_if_none (get_or keys place NO_KEY) (none place);
    }

module _ (m : Map) (source : Cell) (keys : List ℕ) (settled : List Cell) (limits : IsWithinLimits m.width m.height) (passable : IsPassable m source)
    (few : IsSearchable m) (f : IsFinished m source keys settled) where
  kept_proper : (place : ℕ) → place < m.width * m.height → key_or_none (cost_if_key (get_or keys place NO_KEY)) ≡ get_or keys place NO_KEY
  kept_proper place inside =
      let here : key_at m.width keys (cell_at m.width place) ≡ get_or keys place NO_KEY = ap (λ p. get_or keys p NO_KEY) (place_of_cell_at m.width place) in
      let most : key_at m.width keys (cell_at m.width place) ≤ NO_KEY = f.limit (cell_at m.width place) (cell_inside m place inside) in
      elim (cases_lt (get_or keys place NO_KEY) NO_KEY) [
        | inl found ↦
            let (cost, e, steps) = f.progress.costs (cell_at m.width place) (record { inside = cell_inside m place inside; found = omega arith }) in
            let count : length settled ≤ passable_count m = settled_count m source keys settled passable f.progress in
            proper_some (get_or keys place NO_KEY) cost (e ∙ here) (omega arith) found
        | inr none ↦ proper_if_none (get_or keys place NO_KEY) (omega arith)
      ]

  pub kept_after : (front : Opened) (order : List Cell) (count : ℕ) → front.keys ≡ keys → settled ≡ take count order → m.width * m.height ≤ length front.keys
      → HasRoom (length front.keys) front.straight.room → HasRoom (length front.keys) front.diagonal.room → HasRoom (length front.keys) (length order)
      → count ≤ length order → IsKept m.width m.height front order count
  kept_after front order count same e fits s d order_room counted = record {
    columns = limits.columns;
    rows = limits.rows;
    fits = fits;
    order_room = order_room;
    straight_room = s;
    diagonal_room = d;
    counted = counted;
    inside = subst (All (IsWithin m.width m.height)) e (λ k d h. let was : IsReached m keys (get_or settled k d) = f.progress.reached k d h in
        (was.inside.column, was.inside.row));
    written = λ place some_front.
        let some : get_or keys place NO_KEY ≡ NO_KEY → ⊥ = subst (λ list. get_or list place NO_KEY ≡ NO_KEY → ⊥) same some_front in
        elim (cases_lt place (m.width * m.height)) [
          | inr past ↦ absurd (some (f.progress.beyond place past))
          | inl inside ↦
              let here : key_at m.width keys (cell_at m.width place) ≡ get_or keys place NO_KEY = ap (λ p. get_or keys p NO_KEY) (place_of_cell_at m.width place) in
              let most : key_at m.width keys (cell_at m.width place) ≤ NO_KEY = f.limit (cell_at m.width place) (cell_inside m place inside) in
              let reached : IsReached m keys (cell_at m.width place) = record { inside = cell_inside m place inside; found = omega arith } in
              let (k, h, at) = f.over (cell_at m.width place) reached in
              subst (Any (λ cell. place_of m.width cell ≡ place)) e (k, cell_at m.width place, h, at, place_of_cell_at m.width place)
        ];
    proper = λ place.
        subst (λ list. key_or_none (cost_if_key (get_or list place NO_KEY)) ≡ get_or list place NO_KEY) (sym same)
        (elim (cases_lt place (m.width * m.height)) [
          | inl inside ↦ kept_proper place inside
          | inr past ↦ proper_if_none (get_or keys place NO_KEY) (f.progress.beyond place past)
        ]);
  }

-- the costs give the keys back
pub keys_back : (n : ℕ) (keys : List ℕ) → n ≤ length keys → ((place : ℕ) → key_or_none (cost_if_key (get_or keys place NO_KEY)) ≡ get_or keys place NO_KEY)
    → take n keys ≡ map key_or_none (map cost_if_key (take n keys))
keys_back n keys fits proper =
    let cut : length (take n keys) ≡ n = length-take-le n keys fits in
    let whole : length (map key_or_none (map cost_if_key (take n keys))) ≡ length (take n keys) = length-map (map cost_if_key (take n keys)) key_or_none
    ∙ length-map (take n keys) cost_if_key in
    same_lists (take n keys) (map key_or_none (map cost_if_key (take n keys))) (sym whole) (λ k d h.
    let kept : get_or (take n keys) k NO_KEY ≡ get_or keys k NO_KEY = get_or-take n keys k NO_KEY (omega arith) in
    let costs : length (map cost_if_key (take n keys)) ≡ length (take n keys) = length-map (take n keys) cost_if_key in
    let read : get_or (map cost_if_key (take n keys)) k None ≡ cost_if_key (get_or (take n keys) k NO_KEY) = get_or-map cost_if_key
    (take n keys) k NO_KEY None h in
    let again : get_or (map key_or_none (map cost_if_key (take n keys))) k d ≡ key_or_none (get_or (map cost_if_key (take n keys)) k None) =
    get_or-map key_or_none (map cost_if_key (take n keys)) k None d (omega arith) in
    get_or_default (take n keys) k d NO_KEY h ∙ kept ∙ sym (proper k) ∙ sym (again ∙ ap key_or_none read ∙ ap (λ key. key_or_none (cost_if_key key)) kept))

-- the same, where the fields of a search stand for these
pub kept_fields : (m : Map) (front : Opened) (order : List Cell) (count width height : ℕ) (kept_front : Opened) (kept_order : List Cell)
    → width ≡ m.width → height ≡ m.height → kept_front ≡ front → kept_order ≡ order → IsKept m.width m.height front order count
    → IsKept width height kept_front kept_order count
kept_fields m front order count width height kept_front kept_order w h f o kept =
    subst (λ n. IsKept n height kept_front kept_order count) (sym w)
    (subst (λ n. IsKept m.width n kept_front kept_order count) (sym h)
    (subst (λ g. IsKept m.width m.height g kept_order count) (sym f) (subst (λ list. IsKept m.width m.height front list count) (sym o) kept)))

-- what is seen of a search with these fields
abbrev pub seen_search : ℕ → ℕ → ℕ → List ℕ → List Cell → ℕ → Searched
seen_search room width height keys order count =
    record { room = room; width = width; height = height; costs = map cost_if_key (take (width * height) keys); settled = take count order }

pub searched_fields : (m : Map) (source : Cell) (keys : List ℕ) (order : List Cell) (count room width height : ℕ) (kept_keys : List ℕ)
    (kept_order : List Cell)
    → width ≡ m.width → height ≡ m.height → kept_keys ≡ keys → kept_order ≡ order → HasSearched m source (seen_search room m.width m.height keys order count)
    → HasSearched m source (seen_search room width height kept_keys kept_order count)
searched_fields m source keys order count room width height kept_keys kept_order w h k o done =
    subst (λ n. HasSearched m source (seen_search room n height kept_keys kept_order count)) (sym w)
    (subst (λ n. HasSearched m source (seen_search room m.width n kept_keys kept_order count)) (sym h)
    (subst (λ list. HasSearched m source (seen_search room m.width m.height list kept_order count)) (sym k)
    (subst (λ list. HasSearched m source (seen_search room m.width m.height keys list count)) (sym o) done)))
