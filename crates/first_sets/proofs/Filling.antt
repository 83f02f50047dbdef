-- The sets once all settled cells have theirs: that of the source is written last.
use Rattle.std.proofs.Common.{◌≡◌, ◌≢◌, ◌↔◌, ℕ, ◌+◌, ◌*◌, ◌<◌, ◌≤◌, inl, inr, refl, sym, ap, subst, ◌∙◌, arith, List, [], ◌∷◌, length, get_or, set, take, map, eqb, true, Some, None}
use Rattle.std.specs.Prelude.{All, Contains}
use Rattle.std.specs.List.{list_any}
use Rattle.std.proofs.lemmas.Bool.{cases_eq, cases_lt}
use Rattle.std.proofs.lemmas.Bool.Decides.{Decides-eqb}
use Rattle.std.proofs.lemmas.List.{get_or-set_same, get_or-set_other, get_or_default, get_or-take, length-take-le, length-map, get_or-map}
use Rattle.std.proofs.lemmas.List.Elements.{All-from_get_or}
use Rattle.std.proofs.lemmas.Map.Made.{IsDistinct-from_AllPairs}
use Rattle.std.proofs.lemmas.Map.Steps.{length-le_from_distinct_below}
use Rattle.std.proofs.lemmas.Map.Views.{Contains-from_any}
use Rattle.moves.specs.declared.Cell.{Cell}
use Rattle.moves.specs.declared.Move.{Move}
use Rattle.root_cost.specs.declared.Cost.{Cost}
use Rattle.moves.specs.Paths.{IsLeastCost}
use Rattle.moves.specs.Maps.{Map, IsInside, IsPassable, place_of, cell_at}
use Rattle.moves.specs.MoveSets.{Has}
use Rattle.moves.specs.FirstSets.{IsFirstMove}
use Rattle.moves.proofs.MovesInSets.{Has-all}
use Rattle.grid_search.specs.Searches.{Searched, cost_at, HasSearched}
use Rattle.first_sets.specs.Memory.{AreEmptyBut}
use Rattle.first_sets.specs.Steps.{set_in, IsPassed}
use Rattle.moves.proofs.RowMajor.{place_of_cell_at}
use Rattle.grid_search.proofs.Places.{cell_inside}
use Rattle.first_sets.proofs.Standing.{none_or_some, same_or_apart, place_below, settled_cost, settled_inside, settled_once, stands, some_of}
use Rattle.first_sets.proofs.Passing.{has_same, set_in_same, set_in_other}

-- cells at different places below `n` are at most `n`
few_places : (w n : ℕ) (cells : List Cell) (d : Cell) → ((j : ℕ) → j < length cells → place_of w (get_or cells j d) < n)
    → ((i j : ℕ) → i < j → j < length cells → place_of w (get_or cells i d) ≢ place_of w (get_or cells j d)) → length cells ≤ n
few_places w n cells d low apart =
    let places = map (place_of w) cells in
    let long : length places ≡ length cells = length-map cells (place_of w) in
    let at : (i : ℕ) (e : ℕ) → i < length cells → get_or places i e ≡ place_of w (get_or cells i d) = λ i e l. get_or-map (place_of w) cells i d e l in
    let distinct = IsDistinct-from_AllPairs Decides-eqb places (λ i j e l m. λ same. apart i j l (omega arith)
    (sym (at i e (omega arith)) ∙ same ∙ at j e (omega arith))) in
    let below : (q : ℕ) → list_any (eqb q) places ≡ true → q < n = λ q h.
    let found = Contains-from_any (λ x y e. (Decides-eqb x y).0 e) q places h in
    let k = found.0 in let in_list = found.1 in
    let here = low k (omega arith) in
    let same = sym (at k q (omega arith)) ∙ found.2 in
    omega arith in
    let few = length-le_from_distinct_below places n distinct below in
    omega arith

-- the places of the first settled cells
abbrev pub ArePlaces : Map → List Cell → Cell → ℕ → List ℕ → Type 0
ArePlaces map settled source n places = (j : ℕ) → j < n → get_or places j 0 ≡ place_of map.width (get_or settled j source)

pub noted_more : (map : Map) (settled : List Cell) (source : Cell) (i : ℕ) (places : List ℕ) → ArePlaces map settled source i places
    → (place : ℕ) → place ≡ place_of map.width (get_or settled i source) → i < length places → ArePlaces map settled source (i + 1) (set places i place)
noted_more map settled source i places noted place here l j low = elim (cases_eq j i) [
  | inl e ↦ subst (λ k. get_or (set places i place) k 0 ≡ place_of map.width (get_or settled k source)) (sym e) (get_or-set_same places i place 0 l ∙ here)
  | inr n ↦ get_or-set_other places i j place 0 n ∙ noted j (omega arith)
]

module _ (map : Map) (source : Cell) (search : Searched) (has : HasSearched map source search) (free : IsPassable map source) where
  -- there are at most as many settled cells as cells
  pub few_settled : length search.settled ≤ map.width * map.height
  few_settled = few_places map.width (map.width * map.height) search.settled source
      (λ j l. place_below map (get_or search.settled j source) (settled_inside map source search has j l))
      (λ i j l m e. elim (same_or_apart map (get_or search.settled i source) (get_or search.settled j source)
      (settled_inside map source search has i (omega arith)) (settled_inside map source search has j m)) [
        | inl same ↦ settled_once map source search has i j l m same
        | inr n ↦ n e
      ])

  -- the source has a cost
  source_cost : (c : Cost) × (cost_at search source ≡ Some c)
  source_cost = elim (none_or_some (cost_at search source)) [
    | inl none ↦ absurd (subst (IsLeastCost map source source) none (has.least source free.inside) ([], (free, refl)))
    | inr some ↦ some
  ]

  module _ (sets : List ℕ) (passed : IsPassed map source search (length search.settled) sets) where
    -- what a cell without a cost has
    none_unreached : (cell : Cell) (move : Move) → IsInside map cell → cost_at search cell ≡ None → Has (set_in map.width sets cell) move → ⊥
    none_unreached cell move inside none h =
        let apart : (j : ℕ) → j < length search.settled → get_or search.settled j source ≢ cell = λ j l e.
        let cost = some_of _ (settled_cost map source search has j l).cost in
        let both : None ≡ Some cost.0 = sym none ∙ sym (ap (cost_at search) e) ∙ cost.1 in
        cc in
        let step = (passed.waiting cell inside apart move).0 h in
        let both = sym none ∙ step.to_is in
        cc

    no_first_unreached : (cell : Cell) (move : Move) → IsInside map cell → cost_at search cell ≡ None → source ≢ cell → IsFirstMove map source cell move → ⊥
    no_first_unreached cell move inside none apart (inl h) = apart h.0
    no_first_unreached cell move inside none apart (inr h) =
        subst (IsLeastCost map source cell) none (has.least cell inside) (move ∷ h.0, h.1.leads)

    first_away : (cell : Cell) (move : Move) → IsInside map cell → source ≢ cell → Has (set_in map.width sets cell) move ↔ IsFirstMove map source cell move
    first_away cell move inside apart = elim (none_or_some (cost_at search cell)) [
      | inl none ↦ (λ h. absurd (none_unreached cell move inside none h), λ h. absurd (no_first_unreached cell move inside none apart h))
      | inr some ↦
          let at = stands map source search has cell some.0 inside some.1 in
          subst (λ x. Has (set_in map.width sets x) move ↔ IsFirstMove map source x move) at.2 (passed.done at.0 at.1 (λ e. apart (sym e ∙ at.2)) move)
    ]

    module _ (fits : map.width * map.height ≤ length sets) where
      pub filled_first : (cell : Cell) (move : Move) → IsInside map cell
          → Has (set_in map.width (set sets (place_of map.width source) 255) cell) move ↔ IsFirstMove map source cell move
      filled_first cell move inside = elim (same_or_apart map source cell free.inside inside) [
        | inl e ↦ subst (λ x. Has (set_in map.width (set sets (place_of map.width source) 255) x) move ↔ IsFirstMove map source x move) e
            (has_same _ _ move _ (set_in_same map sets source 255 fits free.inside) (λ h. inl (refl, free), λ h. Has-all move))
        | inr n ↦
            let apart : source ≢ cell = λ e. n (ap (place_of map.width) e) in
            has_same _ _ move _ (set_in_other map sets source cell 255 free.inside inside apart) (first_away cell move inside apart)
      ]

      module _ (places : List ℕ) (room : length search.settled ≤ length places)
          (written : ArePlaces map search.settled source (length search.settled) places) where
        settled_place : (cell : Cell) (c : Cost) → IsInside map cell → cost_at search cell ≡ Some c
            → Contains (take (length search.settled) places) (place_of map.width cell)
        settled_place cell c inside e =
            let at = stands map source search has cell c inside e in
            let long : length (take (length search.settled) places) ≡ length search.settled = length-take-le (length search.settled) places (omega arith) in
            let l = at.1 in
            let j = at.0 in (
              at.0,
              omega arith,
              get_or-take (length search.settled) places j (place_of map.width cell) l
                  ∙ get_or_default places j (place_of map.width cell) 0 (omega arith)
                  ∙ written j l ∙ ap (place_of map.width) at.2,
            )

        pub filled_written : AreEmptyBut (take (length search.settled) places) (set sets (place_of map.width source) 255)
        filled_written place move h = elim (cases_eq place (place_of map.width source)) [
          | inl e ↦ subst (Contains (take (length search.settled) places)) (sym e) (let c = source_cost in settled_place source c.0 free.inside c.1)
          | inr n ↦
              let old : Has (get_or sets place 0) move = subst (λ s. Has s move) (get_or-set_other sets (place_of map.width source) place 255 0 n) h in
              elim (cases_lt place (map.width * map.height)) [
                | inr past ↦ absurd (passed.beyond place move past old)
                | inl low ↦
                    let cell = cell_at map.width place in
                    let inside = cell_inside map place low in
                    let at = place_of_cell_at map.width place in
                    let there : Has (set_in map.width sets cell) move = subst (λ p. Has (get_or sets p 0) move) (sym at) old in
                    elim (none_or_some (cost_at search cell)) [
                      | inl none ↦ absurd (none_unreached cell move inside none there)
                      | inr some ↦ subst (Contains (take (length search.settled) places)) at (settled_place cell some.0 inside some.1)
                    ]
              ]
        ]

        pub filled_inside : All (λ place. place < length sets) (take (length search.settled) places)
        filled_inside =
            let long : length (take (length search.settled) places) ≡ length search.settled = length-take-le (length search.settled) places (omega arith) in
            All-from_get_or (λ place. place < length sets) (take (length search.settled) places) 0 (λ j l.
            let m : j < length search.settled = omega arith in
            let here = get_or-take (length search.settled) places j 0 m ∙ written j m in
            let low = place_below map (get_or search.settled j source) (settled_inside map source search has j m) in
            omega arith)
