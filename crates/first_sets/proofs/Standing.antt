-- What a search says of the steps that attain a cell's cost, and that the cell before stands before it in the order.
use Rattle.std.proofs.Common.{◌≡◌, ◌≢◌, ◌⊎◌, ℕ, ◌<◌, inl, inr, refl, sym, ap, subst, ◌∙◌, arith, [], length, get_or, Option, Some, None, IsSome}
use Rattle.std.proofs.lemmas.Bool.{cases_eq}
use Rattle.std.proofs.lemmas.List.{get_or_default}
use Rattle.root_cost.specs.declared.Cost.{Cost}
use Rattle.root_cost.specs.Costs.{IsAtMost, no_cost}
use Rattle.root_cost.proofs.Order.{at_most_itself}
use Rattle.root_cost.proofs.Adding.{step_not_at_most_none}
use Rattle.moves.specs.declared.Cell.{Cell}
use Rattle.moves.specs.declared.Move.{Move}
use Rattle.moves.specs.declared.Move.TheVariants.{N}
use Rattle.moves.specs.Maps.{Map, IsInside, place_of}
use Rattle.moves.specs.Moves.{is_diagonal, IsLegal}
use Rattle.moves.specs.Paths.{cost_of, IsLeastCost}
use Rattle.moves.specs.CostTables.{after_step}
use Rattle.moves.specs.FirstSets.{ComesBy}
use Rattle.moves.proofs.FirstMoves.{best_none}
use Rattle.moves.proofs.LeastCosts.{same_least}
use Rattle.grid_search.specs.Searches.{Searched, cost_at, HasCost, HasSearched}
pub use Rattle.moves.proofs.Landscapes.{place_below}
pub use Rattle.grid_search.proofs.Preceding.{some_of}
use Rattle.moves.proofs.Landscapes.{same_from_places}
use Rattle.grid_search.proofs.Preceding.{stands_before as earlier}
use Rattle.first_sets.specs.Steps.{Attains, CostsStep}

-- a move and a cell that stand past the end of a list
abbrev pub filler : Move × Cell
filler = (N, record { x = 0; y = 0 })

-- ---- options

pub is_some_of : (o : Option Cost) (c : Cost) → o ≡ Some c → IsSome o
is_some_of o c e = rw e refl

pub none_or_some : (o : Option Cost) → (o ≡ None) ⊎ ((c : Cost) × (o ≡ Some c))
none_or_some None = inl refl
none_or_some (Some c) = inr (c, refl)

-- ---- places and cells

-- two cells inside are one, or stand at two places
pub same_or_apart : (map : Map) (a b : Cell) → IsInside map a → IsInside map b → (a ≡ b) ⊎ (place_of map.width a ≢ place_of map.width b)
same_or_apart map a b p q = elim (cases_eq (place_of map.width a) (place_of map.width b)) [
  | inl e ↦ inl (same_from_places map a b p q e)
  | inr n ↦ inr n
]

-- ---- least costs

-- no step attains the cost of the source itself
pub no_step_back : (map : Map) (source : Cell) (c : Cost) (move : Move) → IsLeastCost map source source (Some (after_step c move)) → ⊥
no_step_back map source c move h =
    let stays : h.0 ≡ [] = best_none map source h.0 h.1 in
    let none : after_step c move ≡ no_cost = sym h.2 ∙ ap cost_of stays in
    step_not_at_most_none c (is_diagonal move) (subst (λ x. IsAtMost x no_cost) (sym none) (at_most_itself no_cost))

-- a legal move that costs the step attains the cost
pub attains_by : (map : Map) (search : Searched) (before to : Cell) (last : Move) → IsLegal map before last to → CostsStep search before (is_diagonal last) to
    → Attains map search before last to
attains_by map search before to last legal step = record { legal = legal; cost_before = step.0; before_is = step.1; to_is = step.2 }

module _ (map : Map) (source : Cell) (search : Searched) (has : HasSearched map source search) where
  pub least_at : (cell : Cell) (c : Cost) → IsInside map cell → cost_at search cell ≡ Some c → IsLeastCost map source cell (Some c)
  least_at cell c inside e = subst (IsLeastCost map source cell) e (has.least cell inside)

  -- a step that attains the cost is the last of a best path, and the other way round
  pub comes_of : (before : Cell) (last : Move) (to : Cell) (cost : Cost) → cost_at search to ≡ Some cost → Attains map search before last to
      → ComesBy map source before last to cost
  comes_of before last to cost e step = record {
    legal = step.legal;
    least = step.cost_before;
    is_least = least_at before step.cost_before step.legal.leaves.inside step.before_is;
    same = let f : Some cost ≡ Some (after_step step.cost_before last) = sym e ∙ step.to_is in cc;
  }

  pub attains_of : (before : Cell) (last : Move) (to : Cell) (cost : Cost) → cost_at search to ≡ Some cost → ComesBy map source before last to cost
      → Attains map search before last to
  attains_of before last to cost e comes = record {
    legal = comes.legal;
    cost_before = comes.least;
    before_is = same_least map source before (cost_at search before) (Some comes.least) (has.least before comes.legal.leaves.inside) comes.is_least;
    to_is = e ∙ ap (λ c. Some c) comes.same;
  }

  pub no_step_to_source : (before : Cell) (last : Move) → Attains map search before last source → ⊥
  no_step_to_source before last step = no_step_back map source step.cost_before last
      (least_at source (after_step step.cost_before last) step.legal.enters.passable.inside step.to_is)

  -- ---- the order

  pub has_cost : (cell : Cell) (c : Cost) → IsInside map cell → cost_at search cell ≡ Some c → HasCost search cell
  has_cost cell c inside e = record {
    column = let w = has.width in let h = inside.column in omega arith;
    row = let w = has.height in let h = inside.row in omega arith;
    cost = is_some_of (cost_at search cell) c e;
  }

  pub inside_of : (cell : Cell) → HasCost search cell → IsInside map cell
  inside_of cell h = record {
    column = let w = has.width in let l = h.column in omega arith;
    row = let w = has.height in let l = h.row in omega arith;
  }

  pub settled_cost : (i : ℕ) → i < length search.settled → HasCost search (get_or search.settled i source)
  settled_cost i l = has.order.reached i source l

  pub settled_inside : (i : ℕ) → i < length search.settled → IsInside map (get_or search.settled i source)
  settled_inside i l = inside_of (get_or search.settled i source) (settled_cost i l)

  -- a cell with a cost stands somewhere in the order
  pub stands : (cell : Cell) (c : Cost) → IsInside map cell → cost_at search cell ≡ Some c
      → (j : ℕ) × (j < length search.settled) × (get_or search.settled j source ≡ cell)
  stands cell c inside e =
      let at = has.order.all cell (has_cost cell c inside e) in
      (at.0, at.1, get_or_default search.settled at.0 source cell at.1 ∙ at.2)

  -- the cell from which a step attains a cell's cost stands before that cell
  pub stands_before : (before : Cell) (last : Move) (i : ℕ) → i < length search.settled → Attains map search before last (get_or search.settled i source)
      → (j : ℕ) × (j < i) × (get_or search.settled j source ≡ before)
  stands_before before last i l step =
      let to = get_or search.settled i source in
      let here : get_or search.settled i to ≡ to = get_or_default search.settled i to source l in
      let at = earlier map source search has before to step.cost_before (after_step step.cost_before last) (is_diagonal last) i
      step.legal.leaves.inside l here step.before_is step.to_is refl in
      let low = at.1 in
      (at.0, low, get_or_default search.settled at.0 source before (omega arith) ∙ at.2)

  -- no cell stands there twice
  pub settled_once : (i j : ℕ) → i < j → j < length search.settled → get_or search.settled i source ≢ get_or search.settled j source
  settled_once i j l m = has.order.once i j source l m
