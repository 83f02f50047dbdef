-- A plain scan: what holds while it looks for the least open cell, and between its turns.
use Rattle.std.proofs.Common.{◌≡◌, ℕ, ◌+◌, ◌*◌, ◌<◌, ◌≤◌, ◌⊎◌, Bool, true, false, List, [], ◌∷◌, ◌++◌, length, get_or, take, set, refl, sym, ap, ◌∙◌, subst, inl, inr, arith, Option, Some, None, MatchOption, Contains, get_or-set_same, get_or-set_other}
use Rattle.std.proofs.lemmas.Bool.{cases_eq, cases_lt}
use Rattle.std.proofs.lemmas.List.{take_more_set, length-map, length-take-le, length-set}
use Rattle.std.proofs.lemmas.List.Elements.{Contains-push, Contains-append_left, Contains-push_cases}
use Rattle.std.proofs.lemmas.List.Sums.{count_by-le-length}
use Rattle.moves.specs.declared.Cell.{Cell}
use Rattle.moves.specs.Maps.{Map, IsInside, IsPassable, is_passable, passable_of, place_of, cell_at, passable_count, IsSearchable}
use Rattle.moves.proofs.TableLaws.{same_or_apart}
use Rattle.grid_search.specs.Keys.{key_at}
use Rattle.grid_search.specs.Scanning.{IsLeastOpen, AreNoneOpen}
use Rattle.grid_search.specs.Settling.{IsProgress, IsRelaxed, IsNext, IsFinished, EveryMove}
use Rattle.moves.proofs.RowMajor.{place_inside, same_cell_from_place, place_of_cell_at}
use Rattle.grid_search.proofs.Places.{cell_inside}
use Rattle.grid_search.proofs.Progress.{turn}
use Rattle.grid_search.proofs.Found.{room_left, key_few, reached_passable}
use Rattle.grid_search.proofs.Turning.{progress_start, none_elsewhere, key_of_source}
use Rattle.root_cost.specs.declared.TheConstants.{NO_KEY, GREATEST_KEY}

pub true_or_false : (b : Bool) → (b ≡ true) ⊎ (b ≡ false)
true_or_false true = inl refl
true_or_false false = inr refl

not_both : (b : Bool) → b ≡ true → b ≡ false → ⊥
not_both true e f = absurd (let h : true ≡ false = f in cc)
not_both false e f = absurd (let h : false ≡ true = e in cc)

-- ---- looking at places one after another

-- the least key among the open ones of the first `n` places, and where it stands
pub record IsScanned (keys : List ℕ) (done : List Bool) (n : ℕ) (found : Option ℕ) (least : ℕ) : Type 0 where
  pub low : (other : ℕ) → other < n → get_or done other false ≡ false → least ≤ get_or keys other NO_KEY
  pub at : MatchOption found (least ≡ NO_KEY) (λ place. (place < n) × (get_or keys place NO_KEY ≡ least) × (least < NO_KEY)
      × (get_or done place false ≡ false))

pub scanned_none : (keys : List ℕ) (done : List Bool) → IsScanned keys done 0 None NO_KEY
scanned_none keys done = record { low = λ other h. absurd (omega arith); at = refl }

pub scanned_found : (keys : List ℕ) (done : List Bool) (n : ℕ) (found : Option ℕ) (least key : ℕ) → IsScanned keys done n found least
    → get_or keys n NO_KEY ≡ key → get_or done n false ≡ false → key ≤ least → key < NO_KEY → IsScanned keys done (n + 1) (Some n) key
scanned_found keys done n found least key s e open_yet low some = record {
  low = λ other h free. elim (cases_lt other n) [
    | inl before ↦ let k : least ≤ get_or keys other NO_KEY = s.low other before free in omega arith
    | inr after ↦
        let same : other ≡ n = omega arith in
        let k : get_or keys other NO_KEY ≡ key = ap (λ p. get_or keys p NO_KEY) same ∙ e in
        omega arith
  ];
  at = (omega arith, e, some, open_yet);
}

scanned_at : (keys : List ℕ) (done : List Bool) (n : ℕ) (found : Option ℕ) (least : ℕ)
    → MatchOption found (least ≡ NO_KEY) (λ place. (place < n) × (get_or keys place NO_KEY ≡ least) × (least < NO_KEY) × (get_or done place false ≡ false))
    → MatchOption found (least ≡ NO_KEY) (λ place. (place < n + 1) × (get_or keys place NO_KEY ≡ least) × (least < NO_KEY)
    × (get_or done place false ≡ false))
scanned_at keys done n None least h = h
scanned_at keys done n (Some place) least (h, e, some, free) = (omega arith, e, some, free)

at_most_none : (keys : List ℕ) (done : List Bool) (n : ℕ) (found : Option ℕ) (least : ℕ)
    → MatchOption found (least ≡ NO_KEY) (λ place. (place < n) × (get_or keys place NO_KEY ≡ least) × (least < NO_KEY) × (get_or done place false ≡ false))
    → least ≤ NO_KEY
at_most_none keys done n None least h = omega arith
at_most_none keys done n (Some place) least (h, e, some, free) = omega arith

pub scanned_passed : (keys : List ℕ) (done : List Bool) (n : ℕ) (found : Option ℕ) (least : ℕ) → IsScanned keys done n found least
    → (get_or done n false ≡ true) ⊎ (least ≤ get_or keys n NO_KEY) ⊎ (NO_KEY ≤ get_or keys n NO_KEY) → IsScanned keys done (n + 1) found least
scanned_passed keys done n found least s why = record {
  low = λ other h free. elim (cases_lt other n) [
    | inl before ↦ s.low other before free
    | inr after ↦
        let same : other ≡ n = omega arith in
        let k : get_or keys other NO_KEY ≡ get_or keys n NO_KEY = ap (λ p. get_or keys p NO_KEY) same in
        let most : least ≤ NO_KEY = at_most_none keys done n found least s.at in
        elim why [
          | inl was ↦ absurd (not_both (get_or done n false) was (ap (λ p. get_or done p false) (sym same) ∙ free))
          | inr rest ↦ elim rest [ inl low ↦ omega arith | inr none ↦ omega arith ]
        ]
  ];
  at = scanned_at keys done n found least s.at;
}

pub scanned_some : (keys : List ℕ) (done : List Bool) (n place : ℕ) (found : Option ℕ) (least : ℕ) → found ≡ Some place → IsScanned keys done n found least
    → IsLeastOpen keys done n place
scanned_some keys done n place found least e s =
    let (inside, key, some, free) = subst (λ f. MatchOption f (least ≡ NO_KEY)
    (λ place. (place < n) × (get_or keys place NO_KEY ≡ least) × (least < NO_KEY) × (get_or done place false ≡ false))) e s.at in
    record {
      inside = inside;
      found = omega arith;
      open_yet = free;
      least = λ other h f. let low : least ≤ get_or keys other NO_KEY = s.low other h f in omega arith;
    }

pub scanned_empty : (keys : List ℕ) (done : List Bool) (n : ℕ) (found : Option ℕ) (least : ℕ) → found ≡ None → IsScanned keys done n found least
    → AreNoneOpen keys done n
scanned_empty keys done n found least e s =
    let none : least ≡ NO_KEY = subst (λ f. MatchOption f (least ≡ NO_KEY)
    (λ place. (place < n) × (get_or keys place NO_KEY ≡ least) × (least < NO_KEY) × (get_or done place false ≡ false))) e s.at in
    λ place h free. let low : least ≤ get_or keys place NO_KEY = s.low place h free in omega arith

-- the same for a count of places under another name
pub least_among : (keys : List ℕ) (done : List Bool) (cells other place : ℕ) → cells ≡ other → IsLeastOpen keys done cells place
    → IsLeastOpen keys done other place
least_among keys done cells other place e least = subst (λ n. IsLeastOpen keys done n place) e least

pub none_among : (keys : List ℕ) (done : List Bool) (cells other : ℕ) → cells ≡ other → AreNoneOpen keys done cells → AreNoneOpen keys done other
none_among keys done cells other e none = subst (AreNoneOpen keys done) e none

-- ---- between turns

-- what holds at the beginning of each turn: just the settled cells are marked
pub record IsScanning (map : Map) (source : Cell) (keys : List ℕ) (done : List Bool) (order : List Cell) (count : ℕ) : Type 0 where
  pub progress : IsProgress map source keys (take count order)
  pub limit : (b : Cell) → IsInside map b → key_at map.width keys b ≤ NO_KEY
  pub counted : count ≤ length order
  pub settled : (b : Cell) → IsInside map b → get_or done (place_of map.width b) false ≡ true → Contains (take count order) b
  pub marked : (b : Cell) → Contains (take count order) b → get_or done (place_of map.width b) false ≡ true

pub scanning_start : (map : Map) (source : Cell) (passable : IsPassable map source) (keys : List ℕ) (unused : (place : ℕ) → get_or keys place NO_KEY ≡ NO_KEY)
    → map.width * map.height ≤ length keys → (done : List Bool) → ((place : ℕ) → get_or done place false ≡ false) → (order : List Cell) (place : ℕ)
    → place ≡ place_of map.width source
    → IsScanning map source (set keys place 0) done order 0
scanning_start map source passable keys unused fits done none order place here = record {
  progress = progress_start map source passable keys unused fits place here;
  limit = λ b inside. elim (same_or_apart b source) [
    | inl same ↦ let k : key_at map.width (set keys place 0) b ≡ 0 = ap (key_at map.width (set keys place 0)) same
        ∙ key_of_source map source passable keys unused fits place here in omega arith
    | inr apart ↦ let k : key_at map.width
        (set keys place 0) b ≡ NO_KEY = none_elsewhere map source passable keys unused fits place here b inside.column apart in omega arith
  ];
  counted = omega arith;
  settled = λ b inside was. absurd (not_both (get_or done (place_of map.width b) false) was (none (place_of map.width b)));
  marked = λ b (k, below, at). absurd (omega arith);
}

module _ (map : Map) (source : Cell) (keys : List ℕ) (done : List Bool) (order : List Cell) (count : ℕ)
    (s : IsScanning map source keys done order count) where
  pub scanning_end : AreNoneOpen keys done (map.width * map.height) → IsFinished map source keys (take count order)
  scanning_end none = record {
    progress = s.progress;
    over = λ b reached. elim (true_or_false (get_or done (place_of map.width b) false)) [
      | inl was ↦ s.settled b reached.inside was
      | inr free ↦
          let high : NO_KEY ≤ key_at map.width keys b = none (place_of map.width b)
          (place_inside map.width map.height b reached.inside.column reached.inside.row) free in
          let low : key_at map.width keys b < NO_KEY = reached.found in
          absurd (omega arith)
    ];
    limit = s.limit;
  }

  module _ (passable : IsPassable map source) (place : ℕ) (least : IsLeastOpen keys done (map.width * map.height) place) where
    pub next_of_place : IsNext map keys (take count order) (cell_at map.width place)
    next_of_place =
        let back : place_of map.width (cell_at map.width place) ≡ place = place_of_cell_at map.width place in
        let key : key_at map.width keys (cell_at map.width place) ≡ get_or keys place NO_KEY = ap (λ p. get_or keys p NO_KEY) back in
        let some : get_or keys place NO_KEY < NO_KEY = least.found in
        record {
          reached = record { inside = cell_inside map place least.inside; found = omega arith };
          open_yet = λ was. not_both (get_or done place false) (ap (λ p. get_or done p false) (sym back)
              ∙ s.marked (cell_at map.width place) was) least.open_yet;
          least = λ b reached apart. elim (true_or_false (get_or done (place_of map.width b) false)) [
            | inl was ↦ absurd (apart (s.settled b reached.inside was))
            | inr free ↦
                let low : get_or keys place NO_KEY ≤ key_at map.width keys b = least.least (place_of map.width b)
                (place_inside map.width map.height b reached.inside.column reached.inside.row) free in
                omega arith
          ];
        }

    pub passable_next : IsPassable map (cell_at map.width place)
    passable_next = reached_passable map source keys (take count order) passable s.progress (cell_at map.width place) next_of_place.reached

    pub few_next : IsSearchable map → get_or keys place NO_KEY ≤ GREATEST_KEY
    few_next few =
        let back : place_of map.width (cell_at map.width place) ≡ place = place_of_cell_at map.width place in
        let key : key_at map.width keys (cell_at map.width place) ≡ get_or keys place NO_KEY = ap (λ p. get_or keys p NO_KEY) back in
        let low : key_at map.width keys (cell_at map.width place) ≤ GREATEST_KEY = key_few map source keys (take count order) passable s.progress
        (cell_at map.width place) few next_of_place.reached in
        omega arith

    pub room_next : count < passable_count map
    room_next =
        let left : length (take count order) < passable_count map = room_left map source keys (take count order) passable s.progress
        (cell_at map.width place) next_of_place in
        let cut : length (take count order) ≡ count = length-take-le count order s.counted in
        omega arith

    module _ (whole : length map.terrain ≡ map.width * map.height) (room : map.width * map.height ≤ length order)
        (long : map.width * map.height ≤ length done) where
      pub room_in_order : count < length order
      room_in_order =
          let left : count < passable_count map = room_next in
          let few : passable_count map ≤ length (passable_of map) = count_by-le-length (λ mark. mark) (passable_of map) in
          omega (arith, length-map map.terrain is_passable)

      pub scanning_more : (after : List ℕ) (key : ℕ) (cell : Cell) → cell ≡ cell_at map.width place → key ≡ get_or keys place NO_KEY
          → IsRelaxed map cell key EveryMove keys after
          → IsScanning map source after (set done place true) (set order count cell) (count + 1)
      scanning_more after key cell is_cell is_key relaxed =
          let back : place_of map.width cell ≡ place = ap (place_of map.width) is_cell ∙ place_of_cell_at map.width place in
          let at_cell : key ≡ key_at map.width keys cell = is_key ∙ ap (λ p. get_or keys p NO_KEY) (sym back) in
          let next : IsNext map keys (take count order) cell = subst (IsNext map keys (take count order)) (sym is_cell) next_of_place in
          let r : IsRelaxed map cell (key_at map.width keys cell) EveryMove keys after = subst
          (λ k. IsRelaxed map cell k EveryMove keys after) at_cell relaxed in
          let longer : take count order ++ cell ∷ [] ≡ take (count + 1) (set order count cell) = sym (take_more_set order count cell room_in_order) in
          let low : place < map.width * map.height = least.inside in
          let here : get_or (set done place true) place false ≡ true = get_or-set_same done place true false (omega arith) in
          record {
            progress = subst (IsProgress map source after) longer (turn map source keys (take count order) passable s.progress cell next after r);
            limit = λ b inside. let fall : key_at map.width after b ≤ key_at map.width keys b = relaxed.lower b inside in
                let k : key_at map.width keys b ≤ NO_KEY = s.limit b inside in omega arith;
            counted = let inside : count < length order = room_in_order in omega (arith, length-set order count cell);
            settled = λ b inside was. subst (λ list. Contains list b) longer (elim (cases_eq (place_of map.width b) place) [
              | inl same ↦ subst (Contains (take count order ++ cell ∷ []))
                  (same_cell_from_place map.width cell b next.reached.inside.column inside.column (back ∙ sym same)) (Contains-push (take count order) cell)
              | inr apart ↦ Contains-append_left (take count order) (cell ∷ []) b
                  (s.settled b inside (sym (get_or-set_other done place (place_of map.width b) true false apart) ∙ was))
            ]);
            marked = λ b was. elim (cases_eq (place_of map.width b) place) [
              | inl same ↦ ap (λ p. get_or (set done place true) p false) same ∙ here
              | inr apart ↦ get_or-set_other done place (place_of map.width b) true false apart
                  ∙ elim (Contains-push_cases (take count order) cell b (subst (λ list. Contains list b) (sym longer) was)) [
                    | inl old ↦ s.marked b old
                    | inr e ↦ absurd (apart (ap (place_of map.width) (sym e) ∙ back))
                  ]
            ];
          }
