-- Sets passed on along the order in which cells were settled: one cell more has its first set.
use Rattle.std.proofs.Common.{◌≡◌, ◌≢◌, ◌↔◌, ℕ, ◌+◌, ◌*◌, ◌<◌, ◌≤◌, inl, inr, refl, sym, ap, subst, ◌∙◌, arith, List, length, get_or, set, Some}
use Rattle.std.proofs.lemmas.Bool.{cases_lt}
use Rattle.std.proofs.lemmas.List.{get_or-set_same, get_or-set_other}
use Rattle.root_cost.specs.declared.Cost.{Cost}
use Rattle.moves.specs.declared.Cell.{Cell}
use Rattle.moves.specs.declared.Move.{Move}
use Rattle.moves.specs.Maps.{Map, IsInside, IsPassable, place_of}
use Rattle.moves.specs.MoveSets.{Has}
use Rattle.moves.specs.FirstSets.{IsFirstMove}
use Rattle.moves.proofs.FirstMoves.{first_moves_are_local}
use Rattle.grid_search.specs.Searches.{Searched, cost_at, HasSearched}
use Rattle.first_sets.specs.Steps.{Attains, set_in, IsPassedOn, IsPassed}
use Rattle.first_sets.proofs.Standing.{some_of, same_or_apart, place_below, least_at, comes_of, attains_of, no_step_to_source, settled_cost, settled_inside, stands_before, settled_once}

-- what is said of one set is said of an equal one
pub has_same : (a b : ℕ) (move : Move) (F : Type 0) → a ≡ b → Has b move ↔ F → Has a move ↔ F
has_same a b move F e h = (λ k. h.0 (subst (λ s. Has s move) e k), λ f. subst (λ s. Has s move) (sym e) (h.1 f))

-- a set written at one cell is read there, and the others stay
pub set_in_same : (map : Map) (sets : List ℕ) (to : Cell) (new : ℕ) → map.width * map.height ≤ length sets → IsInside map to
    → set_in map.width (set sets (place_of map.width to) new) to ≡ new
set_in_same map sets to new fits inside =
    get_or-set_same sets (place_of map.width to) new 0 (let low = place_below map to inside in omega arith)

pub set_in_other : (map : Map) (sets : List ℕ) (to cell : Cell) (new : ℕ) → IsInside map to → IsInside map cell → to ≢ cell
    → set_in map.width (set sets (place_of map.width to) new) cell ≡ set_in map.width sets cell
set_in_other map sets to cell new p q apart = elim (same_or_apart map cell to q p) [
  | inl e ↦ absurd (apart (sym e))
  | inr n ↦ get_or-set_other sets (place_of map.width to) (place_of map.width cell) new 0 n
]

module _ (map : Map) (source : Cell) (search : Searched) (has : HasSearched map source search) (free : IsPassable map source) where
  module _ (i : ℕ) (sets : List ℕ) (passed : IsPassed map source search i sets) (l : i < length search.settled) where
    -- the next cell waits
    waits : (j : ℕ) → j < i → get_or search.settled j source ≢ get_or search.settled i source
    waits j low = settled_once map source search has j i low l

    seeded : (move : Move) → Has (set_in map.width sets (get_or search.settled i source)) move ↔ Attains map search source move
        (get_or search.settled i source)
    seeded = passed.waiting (get_or search.settled i source) (settled_inside map source search has i l) waits

    -- what is passed on to the next cell begins a best path to it
    first_if_passed : get_or search.settled i source ≢ source → (cost : Cost) → cost_at search (get_or search.settled i source) ≡ Some cost
        → (move : Move) → IsPassedOn map search sets (get_or search.settled i source) move → IsFirstMove map source (get_or search.settled i source) move
    first_if_passed away cost e move (inl here) =
        let to = get_or search.settled i source in
        let step = (seeded move).0 here in
        (first_moves_are_local map source to cost move (λ s. away (sym s))
        (least_at map source search has to cost (settled_inside map source search has i l) e)).1
        (source, move, comes_of map source search has source move to cost e step, inl (refl, refl))
    first_if_passed away cost e move (inr (before, last, step, there)) =
        let to = get_or search.settled i source in
        let at = stands_before map source search has before last i l step in
        let apart : before ≢ source = λ s. passed.empty move (subst (λ x. Has (set_in map.width sets x) move) s there) in
        let first : IsFirstMove map source before move = subst (λ x. IsFirstMove map source x move) at.2
        ((passed.done at.0 at.1 (λ s. apart (sym at.2 ∙ s)) move).0 (subst (λ x. Has (set_in map.width sets x) move) (sym at.2) there)) in
        (first_moves_are_local map source to cost move (λ s. away (sym s))
        (least_at map source search has to cost (settled_inside map source search has i l) e)).1
        (before, last, comes_of map source search has before last to cost e step, inr (apart, first))

    -- and each such move is passed on
    passed_if_first : get_or search.settled i source ≢ source → (cost : Cost) → cost_at search (get_or search.settled i source) ≡ Some cost
        → (move : Move) → IsFirstMove map source (get_or search.settled i source) move → IsPassedOn map search sets (get_or search.settled i source) move
    passed_if_first away cost e move first =
        let to = get_or search.settled i source in
        let by = (first_moves_are_local map source to cost move (λ s. away (sym s))
        (least_at map source search has to cost (settled_inside map source search has i l) e)).0 first in
        let step : Attains map search by.0 by.1 to = attains_of map source search has by.0 by.1 to cost e by.2 in
        elim by.3 [
          | inl same ↦ inl ((seeded move).1 (subst (λ m. Attains map search source m to) (sym same.1)
              (subst (λ x. Attains map search x by.1 to) same.0 step)))
          | inr apart ↦
              let at = stands_before map source search has by.0 by.1 i l step in
              let there = (passed.done at.0 at.1 (λ s. apart.0 (sym at.2 ∙ s)) move).1 (subst (λ x. IsFirstMove map source x move) (sym at.2) apart.1) in
              inr (by.0, by.1, step, subst (λ x. Has (set_in map.width sets x) move) at.2 there)
        ]

    -- nothing is passed on to the source
    none_to_source : get_or search.settled i source ≡ source → (move : Move) → IsPassedOn map search sets (get_or search.settled i source) move → ⊥
    none_to_source here move (inl h) = passed.empty move (subst (λ x. Has (set_in map.width sets x) move) here h)
    none_to_source here move (inr (before, last, step, there)) = no_step_to_source map source search has before last
        (subst (Attains map search before last) here step)

    module _ (fits : map.width * map.height ≤ length sets) (new : ℕ) (made : (move : Move)
        → Has new move ↔ IsPassedOn map search sets (get_or search.settled i source) move) where
      new_first : get_or search.settled i source ≢ source → (move : Move) → Has new move ↔ IsFirstMove map source (get_or search.settled i source) move
      new_first away move =
          let cost = some_of _ (settled_cost map source search has i l).cost in (
            λ h. first_if_passed away cost.0 cost.1 move ((made move).0 h),
            λ f. (made move).1 (passed_if_first away cost.0 cost.1 move f),
          )

      pub passed_more : IsPassed map source search (i + 1) (set sets (place_of map.width (get_or search.settled i source)) new)
      passed_more =
          let cell = get_or search.settled i source in
          let inside = settled_inside map source search has i l in
          let here = set_in_same map sets cell new fits inside in
          record {
            empty = elim (same_or_apart map cell source inside free.inside) [
              | inl e ↦ λ move h. none_to_source e move ((made move).0 (subst (λ s. Has s move)
                  (ap (set_in map.width (set sets (place_of map.width cell) new)) (sym e) ∙ here) h))
              | inr n ↦
                  let same = set_in_other map sets cell source new inside free.inside (λ e. n (ap (place_of map.width) e)) in
                  λ move h. passed.empty move (subst (λ s. Has s move) same h)
            ];
            done = λ j low away move. elim (cases_lt j i) [
              | inl less ↦ has_same _ _ move _ (set_in_other map sets cell (get_or search.settled j source) new inside
                  (settled_inside map source search has j (omega arith)) (λ e. waits j less (sym e))) (passed.done j less away move)
              | inr more ↦
                  let last : j ≡ i = omega arith in
                  let F : ℕ → Type 0 = λ k. Has (set_in map.width (set sets (place_of map.width cell) new)
                  (get_or search.settled k source)) move ↔ IsFirstMove map source (get_or search.settled k source) move in
                  let away' : cell ≢ source = λ e. away (ap (λ k. get_or search.settled k source) last ∙ e) in
                  subst F (sym last) (has_same _ _ move _ here (new_first away' move))
            ];
            waiting = λ other within apart move.
                let away : cell ≢ other = apart i (omega arith) in
                has_same _ _ move _ (set_in_other map sets cell other new inside within away)
                (passed.waiting other within (λ j low. apart j (omega arith)) move);
            beyond = λ place move past h.
                let low = place_below map cell inside in
                let n : place ≢ place_of map.width cell = omega arith in
                passed.beyond place move past (subst (λ s. Has s move) (get_or-set_other sets (place_of map.width cell) place new 0 n) h);
          }
