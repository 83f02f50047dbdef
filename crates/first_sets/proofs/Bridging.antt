-- Places and cells, keys and costs: what is brought from places beside is what is passed on from cells before.
use Rattle.std.proofs.Common.{◌≡◌, ◌↔◌, ℕ, ◌+◌, ◌*◌, ◌<◌, ◌≤◌, inl, inr, sym, ap, subst, ◌∙◌, arith, List, length, get_or, Some, None}
use Rattle.std.proofs.lemmas.List.{get_or-map, length-map}
use Rattle.root_cost.specs.declared.Cost.{Cost}
use Rattle.root_cost.specs.Costs.{plus_step, key_of}
use Rattle.root_cost.proofs.Adding.{key_of-plus_step}
use Rattle.root_cost.proofs.Keys.{same_if_key}
use Rattle.moves.specs.declared.Cell.{Cell}
use Rattle.moves.specs.declared.Move.{Move}
use Rattle.moves.specs.declared.Move.TheVariants.{N, NE, E, SE, S, SW, W, NW}
use Rattle.moves.specs.Maps.{Map, IsInside, place_of}
use Rattle.moves.specs.MoveMasks.{AreMoveMasks}
use Rattle.moves.specs.Moves.{is_diagonal, opposite, IsTarget, HasLegal}
use Rattle.moves.specs.MoveSets.{Has}
use Rattle.moves.proofs.MoveLaws.{legal_back, is_diagonal-opposite}
use Rattle.moves.proofs.MovesInSets.{Has-bit_set}
use Rattle.grid_search.specs.Keys.{move_key}
use Rattle.grid_search.specs.Searches.{Searched, cost_at, key_or_none, keys_of, HasSearched}
use Rattle.first_sets.specs.Places.{IsBeside, StaysWithin, IsBroughtTo, CanJoin}
use Rattle.first_sets.specs.Steps.{IsPassedOn}
use Rattle.first_sets.proofs.Besides.{same_beside}
use Rattle.first_sets.proofs.Standing.{none_or_some, some_of, place_below, settled_cost, settled_inside}
use Rattle.root_cost.specs.declared.TheConstants.{NO_KEY}
use Rattle.moves.specs.declared.TheConstants.{MAX_PASSABLE, MAX_CELLS}

-- ---- places

-- one row further is `w` places further
next_row : (w a b : ℕ) → b ≡ a + 1 → b * w ≡ a * w + w
next_row w a b e = ap (λ n. n * w) e ∙ omega arith

same_row : (w a b : ℕ) → b ≡ a → b * w ≡ a * w
same_row w a b e = ap (λ n. n * w) e

-- a move that leads to a cell leads to its place
pub beside_target : (w : ℕ) (by : Move) (from to : Cell) → IsTarget from by to → IsBeside w by (place_of w from) (place_of w to)
beside_target w N from to t = let column = t.0 in omega (arith, next_row w to.y from.y (sym t.1))
beside_target w NE from to t = let column = t.0 in omega (arith, next_row w to.y from.y (sym t.1))
beside_target w E from to t = let column = t.0 in omega (arith, same_row w from.y to.y t.1)
beside_target w SE from to t = let column = t.0 in omega (arith, next_row w from.y to.y t.1)
beside_target w S from to t = let column = t.0 in omega (arith, next_row w from.y to.y t.1)
beside_target w SW from to t = let column = t.0 in omega (arith, next_row w from.y to.y t.1)
beside_target w W from to t = let column = t.0 in omega (arith, same_row w from.y to.y t.1)
beside_target w NW from to t = let column = t.0 in omega (arith, next_row w to.y from.y (sym t.1))

-- ---- the legal moves of a mask

module _ (map : Map) (masks : List ℕ) (are : AreMoveMasks map masks) (cell : Cell) (inside : IsInside map cell) where
  pub legal_of : (by : Move) → Has (get_or masks (place_of map.width cell) 0) by → HasLegal map cell by
  legal_of by h = (are.each cell inside by).0 ((Has-bit_set (get_or masks (place_of map.width cell) 0) by).0 h)

  pub of_legal : (by : Move) → HasLegal map cell by → Has (get_or masks (place_of map.width cell) 0) by
  of_legal by h = (Has-bit_set (get_or masks (place_of map.width cell) 0) by).1 ((are.each cell inside by).1 h)

  pub stays_within : StaysWithin map.width (map.width * map.height) (get_or masks (place_of map.width cell) 0) (place_of map.width cell)
  stays_within by h =
      let to = legal_of by h in
      (place_of map.width to.0, beside_target map.width by cell to.0 to.1.target, place_below map to.0 to.1.enters.passable.inside)

-- ---- keys and costs

-- a cost with few diagonal steps has a key below the word for none
pub key_low : (cost : Cost) → cost.straight + cost.diagonal < MAX_PASSABLE → key_of cost < NO_KEY
key_low cost h = omega arith

pub step_key-plus_step : (cost : Cost) (by : Move) → key_of (plus_step cost (is_diagonal by)) ≡ key_of cost + move_key by
step_key-plus_step cost by = key_of-plus_step cost (is_diagonal by)

module _ (map : Map) (source : Cell) (search : Searched) (has : HasSearched map source search) where
  key_in : (cell : Cell) → IsInside map cell → get_or (keys_of search) (place_of map.width cell) 0 ≡ key_or_none (cost_at search cell)
  key_in cell inside =
      let low = place_below map cell inside in
      let cells = has.cells in
      let same : place_of search.width cell ≡ place_of map.width cell = ap (λ w. place_of w cell) has.width in
      get_or-map key_or_none search.costs (place_of map.width cell) None 0 (omega arith) ∙ ap (λ p. key_or_none (get_or search.costs p None)) (sym same)

  few_steps : (cell : Cell) (cost : Cost) → IsInside map cell → cost_at search cell ≡ Some cost → cost.straight + cost.diagonal < MAX_PASSABLE
  few_steps cell cost inside e = let short = has.short cell cost inside e in let few = has.few in omega arith

  -- a step attains the key of a reached cell just where it attains its cost
  cost_if_key : (before to : Cell) (by : Move) (cost : Cost) → IsInside map before → IsInside map to → cost_at search to ≡ Some cost
      → get_or (keys_of search) (place_of map.width before) 0 + move_key by ≡ get_or (keys_of search) (place_of map.width to) 0
      → (less : Cost) × (cost_at search before ≡ Some less) × (cost ≡ plus_step less (is_diagonal by))
  cost_if_key before to by cost p q e same =
      let there = key_in before p in
      let here : get_or (keys_of search) (place_of map.width to) 0 ≡ key_of cost = key_in to q ∙ ap key_or_none e in
      let few = few_steps to cost q e in
      let low = key_low cost few in
      elim (none_or_some (cost_at search before)) [
        | inl none ↦
            let over : get_or (keys_of search) (place_of map.width before) 0 ≡ NO_KEY = there ∙ ap key_or_none none in
            absurd (omega arith)
        | inr some ↦
            let less = some.0 in
            let key : get_or (keys_of search) (place_of map.width before) 0 ≡ key_of less = there ∙ ap key_or_none some.1 in
            let few' = few_steps before less p some.1 in
            let step = step_key-plus_step less by in
            let keys : key_of cost ≡ key_of (plus_step less (is_diagonal by)) = omega arith in
            (less, some.1, same_if_key cost (plus_step less (is_diagonal by)) (omega arith) (omega arith) keys)
      ]

  key_if_cost : (before to : Cell) (by : Move) (less : Cost) → IsInside map before → IsInside map to → cost_at search before ≡ Some less
      → cost_at search to ≡ Some (plus_step less (is_diagonal by))
      → get_or (keys_of search) (place_of map.width before) 0 + move_key by ≡ get_or (keys_of search) (place_of map.width to) 0
  key_if_cost before to by less p q e f =
      let there : get_or (keys_of search) (place_of map.width before) 0 ≡ key_of less = key_in before p ∙ ap key_or_none e in
      let here : get_or (keys_of search) (place_of map.width to) 0 ≡ key_of (plus_step less (is_diagonal by)) = key_in to q ∙ ap key_or_none f in
      let step = step_key-plus_step less by in
      omega arith

  module _ (masks sets : List ℕ) (are : AreMoveMasks map masks) (to : Cell) (inside : IsInside map to) (cost : Cost) (e : cost_at search to ≡ Some cost) where
    passed_if_brought : (move : Move) → IsBroughtTo map.width (keys_of search) sets (get_or masks (place_of map.width to) 0) (place_of map.width to) move
        → IsPassedOn map search sets to move
    passed_if_brought move (inl here) = inl here
    passed_if_brought move (inr (by, from, legal, beside, same, there)) =
        let way = legal_of map masks are to inside by legal in
        let before = way.0 in
        let at : from ≡ place_of map.width before = same_beside map.width by (place_of map.width to) from (place_of map.width before) beside
        (beside_target map.width by to before way.1.target) in
        let keys = subst (λ p. get_or (keys_of search) p 0 + move_key by ≡ get_or (keys_of search) (place_of map.width to) 0) at same in
        let less = cost_if_key before to by cost way.1.enters.passable.inside inside e keys in
        inr (
          before,
          opposite by,
          record {
            legal = legal_back map to by before way.1;
            cost_before = less.0;
            before_is = less.1;
            to_is = e ∙ ap (λ c. Some c) less.2 ∙ ap (λ d. Some (plus_step less.0 d)) (sym (is_diagonal-opposite by));
          },
          subst (λ p. Has (get_or sets p 0) move) at there,
        )

    brought_if_passed : (move : Move) → IsPassedOn map search sets to move
        → IsBroughtTo map.width (keys_of search) sets (get_or masks (place_of map.width to) 0) (place_of map.width to) move
    brought_if_passed move (inl here) = inl here
    brought_if_passed move (inr (before, last, step, there)) =
        let by = opposite last in
        let back = legal_back map before last to step.legal in
        let to_is : cost_at search to ≡ Some (plus_step step.cost_before (is_diagonal by)) = step.to_is
        ∙ ap (λ d. Some (plus_step step.cost_before d)) (sym (is_diagonal-opposite last)) in
        inr (
          by,
          place_of map.width before,
          of_legal map masks are to inside by (before, back),
          beside_target map.width by to before back.target,
          key_if_cost before to by step.cost_before back.enters.passable.inside inside step.before_is to_is,
          there,
        )

    pub brought_is_passed : (made : ℕ) → ((move : Move) → Has made move ↔ IsBroughtTo map.width (keys_of search) sets (get_or masks (place_of map.width to) 0)
        (place_of map.width to) move)
        → (move : Move) → Has made move ↔ IsPassedOn map search sets to move
    brought_is_passed made h move = (λ k. passed_if_brought move ((h move).0 k), λ k. (h move).1 (brought_if_passed move k))

  -- the same in the words of the code
  module _ (masks sets : List ℕ) (are : AreMoveMasks map masks) (i : ℕ) (low : i < length search.settled) (w place : ℕ) (keys : List ℕ)
      (wide : w ≡ map.width) (keys_are : keys ≡ keys_of search) (at : place ≡ place_of map.width (get_or search.settled i source)) where
    pub near_at : StaysWithin w (length keys) (get_or masks place 0) place
    near_at =
        let to = get_or search.settled i source in
        let inside = settled_inside map source search has i low in
        let size : map.width * map.height ≡ length keys = sym has.cells ∙ sym (length-map search.costs key_or_none) ∙ ap length (sym keys_are) in
        subst (λ v. StaysWithin v (length keys) (get_or masks place 0) place) (sym wide)
        (subst (λ p. StaysWithin map.width (length keys) (get_or masks p 0) p) (sym at)
        (subst (λ n. StaysWithin map.width n (get_or masks (place_of map.width to) 0) (place_of map.width to)) size (stays_within map masks are to inside)))

    pub can_join_at : map.width * map.height ≤ MAX_CELLS → map.width * map.height ≤ length sets → CanJoin w keys sets (get_or masks place 0) place
    can_join_at few fits =
        let to = get_or search.settled i source in
        let size : map.width * map.height ≡ length keys = sym has.cells ∙ sym (length-map search.costs key_or_none) ∙ ap length (sym keys_are) in
        let low = place_below map to (settled_inside map source search has i low) in
        record { inside = omega arith; size = omega arith; room = omega arith; near = near_at }

    pub made_at : (made : ℕ) → ((move : Move) → Has made move ↔ IsBroughtTo w keys sets (get_or masks place 0) place move)
        → (move : Move) → Has made move ↔ IsPassedOn map search sets (get_or search.settled i source) move
    made_at made h =
        let to = get_or search.settled i source in
        let inside = settled_inside map source search has i low in
        let cost = some_of _ (settled_cost map source search has i low).cost in
        brought_is_passed masks sets are to inside cost.0 cost.1 made
        (subst (λ v. (move : Move) → Has made move ↔ IsBroughtTo v (keys_of search) sets (get_or masks (place_of map.width to) 0)
        (place_of map.width to) move) wide
        (subst (λ k. (move : Move) → Has made move ↔ IsBroughtTo w k sets (get_or masks (place_of map.width to) 0) (place_of map.width to) move) keys_are
        (subst (λ p. (move : Move) → Has made move ↔ IsBroughtTo w keys sets (get_or masks p 0) p move) at h)))
