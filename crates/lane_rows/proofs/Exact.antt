-- Keys that meet their equations are those of the least costs: they make a table of costs.
use Rattle.std.proofs.Common.{◌≡◌, ◌≢◌, ℕ, zero, suc, ◌+◌, ◌<◌, ◌≤◌, ◌⊎◌, Bool, true, false, cond, List, [], ◌∷◌, length, Contains, Option, Some, None, inl, inr, refl, sym, ap, subst, ◌∙◌, arith}
use Rattle.std.proofs.lemmas.Bool.{cases_eq}
use Rattle.std.proofs.lemmas.List.{get_or_default}
use Rattle.std.proofs.lemmas.List.Elements.{Contains-get_or}
use Rattle.root_cost.specs.declared.Cost.{Cost}
use Rattle.root_cost.specs.Costs.{no_cost, plus_step}
use Rattle.root_cost.specs.Keys.{key_of, cost_of_key}
use Rattle.root_cost.proofs.Keys.{at_most_if_key, cost_back, few_diagonals}
use Rattle.root_cost.proofs.Adding.{key_of-plus_step}
use Rattle.moves.specs.declared.Cell.{Cell}
use Rattle.moves.specs.declared.Move.{Move}
use Rattle.moves.specs.Maps.{Map}
use Rattle.moves.specs.Moves.{is_diagonal, opposite, IsTarget, IsLegal}
use Rattle.moves.specs.Paths.{IsLeastCost}
use Rattle.moves.specs.CostTables.{IsCostTable, after_step}
use Rattle.moves.proofs.MoveLaws.{is_diagonal-opposite}
use Rattle.moves.proofs.TableLaws.{same_or_apart, tables_are_least}
use Rattle.moves.specs.FirstSetLists.{cell_of}
use Rattle.lane_rows.specs.Tables.{IsMutual, IsStep, edges_of, end_of}
use Rattle.lane_rows.specs.Equations.{far, offered, step_of}
use Rattle.lane_rows.specs.Visits.{AreSolved, IsSettled}
use Rattle.root_cost.specs.declared.TheConstants.{GREATEST_KEY}
use Rattle.lane_rows.specs.Laws.{IsTableOf, SolvedKeysAreLeast}
use Rattle.lane_rows.proofs.Indexing.{same_place}
use Rattle.lane_rows.proofs.Nearness.{step_back}

-- ---- cells and places

-- a cell is one of the cells, or not
abbrev Found : List Cell → Cell → Type 0
Found cells cell = ((place : ℕ) × (place < length cells) × (cell_of cells place ≡ cell)) ⊎ (Contains cells cell → ⊥)

find : (cells : List Cell) (cell : Cell) → Found cells cell
find [] cell = inr (λ h. omega (arith, h.1))
find (first ∷ rest) cell = elim (same_or_apart first cell) [
  | inl same ↦ inl (0, omega arith, same)
  | inr apart ↦ elim (find rest cell) [
    | inl h ↦ inl (suc h.0, (let l = h.1 in omega arith), h.2)
    | inr none ↦ inr (later apart none)
  ]
]
  where
    later : (first ≡ cell → ⊥) → (Contains rest cell → ⊥) → Contains (first ∷ rest) cell → ⊥
    later apart none (zero, l, e) = apart e
    later apart none (suc k, l, e) = none (k, omega arith, e)

pub place_of_one : (cells : List Cell) (cell : Cell) → Contains cells cell → (place : ℕ) × (place < length cells) × (cell_of cells place ≡ cell)
place_of_one cells cell h = (h.0, h.1, get_or_default cells h.0 (record { x = 0; y = 0 }) cell h.1 ∙ h.2)

pub one_of_cells : (cells : List Cell) (place : ℕ) → place < length cells → Contains cells (cell_of cells place)
one_of_cells cells place l = Contains-get_or cells place (record { x = 0; y = 0 }) l

-- ---- keys of costs

pub step_of-opposite : (move : Move) → step_of (opposite move) ≡ step_of move
step_of-opposite move = ap (λ b. cond b 47321 33461) (is_diagonal-opposite move)

pub step_least : (move : Move) → 33461 ≤ step_of move
step_least move = least (is_diagonal move)
  where
    least : (b : Bool) → 33461 ≤ cond b 47321 33461
    least true = omega arith
    least false = omega arith

pub step_most : (move : Move) → step_of move ≤ 47321
step_most move = most (is_diagonal move)
  where
    most : (b : Bool) → cond b 47321 33461 ≤ 47321
    most true = omega arith
    most false = omega arith

pub back_step : (cost : Cost) (move : Move) → after_step cost move ≡ after_step cost (opposite move)
back_step cost move = ap (plus_step cost) (sym (is_diagonal-opposite move))

fewer : (cost : Cost) → key_of cost < GREATEST_KEY + 47321 → cost.diagonal < 33461
fewer cost h = omega arith

pub key_more : (cost : Cost) (move : Move) → key_of (after_step cost move) ≡ key_of cost + step_of move
key_more cost move = key_of-plus_step cost (is_diagonal move)

-- one step from a key that is a cost's
pub step_cost : (key more : ℕ) (move : Move) → key_of (cost_of_key key) ≡ key → more ≡ key + step_of move → more < GREATEST_KEY → cost_of_key more ≡ after_step (cost_of_key key) move
step_cost key more move is e low =
    let same : key_of (after_step (cost_of_key key) move) ≡ more = key_more (cost_of_key key) move ∙ ap (λ k. k + step_of move) is ∙ sym e in
    ap cost_of_key (sym same) ∙ cost_back (after_step (cost_of_key key) move) (few_diagonals (after_step (cost_of_key key) move) (omega arith))

pub cost_of_zero : cost_of_key 0 ≡ no_cost
cost_of_zero = cost_back no_cost (omega arith)

module _ (map : Map) (cells : List Cell) (near : List (List ℕ)) (source : ℕ) (keys sets : ℕ → ℕ) (table : IsTableOf map cells near) (pair : IsMutual near) (inside : source < length cells)
    (solved : AreSolved near source keys sets) where
  whole : length near ≡ length cells
  whole = table.edges.whole

  pub settled : (place : ℕ) → place < length cells → IsSettled near source keys sets place
  settled place l = solved.settled place (let w = whole in omega arith)

  pub small : (place : ℕ) → place < length cells → keys place < GREATEST_KEY
  small place l = solved.small place (let w = whole in omega arith)

  -- ---- moves between places

  pub legal_of : (from : Cell) (move : Move) (to : Cell) → IsStep cells from move to → IsLegal map from move to
  legal_of from move to step = record {
    target = step.target;
    leaves = (table.just.just_these from).1 step.leaves;
    enters = table.just.one_class from to step.leaves step.enters;
    corners = λ diagonal.
        let c = step.corners diagonal in
        (table.just.one_class from _ step.leaves c.0, table.just.one_class from _ step.leaves c.1);
  }

  pub step_if_legal : (from : Cell) (move : Move) (to : Cell) → IsLegal map from move to → IsStep cells from move to
  step_if_legal from move to legal = record {
    target = legal.target;
    leaves = (table.just.just_these from).0 legal.leaves;
    enters = (table.just.just_these to).0 legal.enters.passable;
    corners = λ diagonal. let c = legal.corners diagonal in ((table.just.just_these _).0 c.0.passable, (table.just.just_these _).0 c.1.passable);
  }

  -- where a legal move from a place leads
  pub led : (place : ℕ) (move : Move) (to : Cell) → place < length cells → IsLegal map (cell_of cells place) move to
      → (end_of (edges_of near place) move < length cells) × (cell_of cells (end_of (edges_of near place) move) ≡ to)
  led place move to l legal = (table.edges.each place move l).legal to (step_if_legal (cell_of cells place) move to legal)

  -- a neighbour from which a step attains a key is a place, from which the move back is legal
  pub attaining : (place : ℕ) (move : Move) → place < length cells → keys place ≡ offered (edges_of near place) keys move
      → (end_of (edges_of near place) move < length cells) × IsLegal map (cell_of cells (end_of (edges_of near place) move)) (opposite move) (cell_of cells place)
  attaining place move l e = elim (table.edges.each place move l).only [
    | inl none ↦
        let at_end : keys (end_of (edges_of near place) move) ≡ far = ap keys (none ∙ sym whole) ∙ solved.none in
        let low = small place l in
        absurd (omega arith)
    | inr some ↦ (some.0, legal_of _ (opposite move) _ (step_back cells (cell_of cells place) move (cell_of cells (end_of (edges_of near place) move)) some.1))
  ]

  -- a move goes on to the cell of the neighbour
  pub onward : (place : ℕ) (move : Move) → place < length cells → end_of (edges_of near place) move < length cells → IsTarget (cell_of cells place) move (cell_of cells (end_of (edges_of near place) move))
  onward place move l here = elim (table.edges.each place move l).only [ inl none ↦ absurd (omega arith) | inr some ↦ some.1.target ]

  pub source_key : keys source ≡ 0
  source_key = (settled source inside).key.start refl

  -- each place but the source has its key from a neighbour
  pub neighbour : (place : ℕ) → place < length cells → place ≢ source → (move : Move) × (keys place ≡ offered (edges_of near place) keys move)
  neighbour place l apart = elim ((settled place l).key.attained apart) [
    | inl none ↦ let low = small place l in absurd (omega arith)
    | inr some ↦ some
  ]

  -- ---- each key is that of a cost

  keyed_below : (bound place : ℕ) → keys place < bound → place < length cells → key_of (cost_of_key (keys place)) ≡ keys place
  keyed_below zero place low l = absurd (omega arith)
  keyed_below (suc bound) place low l = elim (cases_eq place source) [
    | inl same ↦ let none : keys place ≡ 0 = ap keys same ∙ source_key in ap (λ k. key_of (cost_of_key k)) none ∙ ap key_of cost_of_zero ∙ sym none
    | inr apart ↦
        let from = neighbour place l apart in
        let e = from.1 in
        let to = attaining place from.0 l from.1 in
        let before = keyed_below bound (end_of (edges_of near place) from.0) (omega (arith, step_least from.0)) to.0 in
        ap key_of (step_cost (keys (end_of (edges_of near place) from.0)) (keys place) from.0 before from.1 (small place l))
        ∙ key_more (cost_of_key (keys (end_of (edges_of near place) from.0))) from.0 ∙ ap (λ k. k + step_of from.0) before ∙ sym from.1
  ]

  pub keyed : (place : ℕ) → place < length cells → key_of (cost_of_key (keys place)) ≡ keys place
  keyed place l = keyed_below (suc (keys place)) place (omega arith) l

  pub cost_at : ℕ → Cost
  cost_at place = cost_of_key (keys place)

  -- ---- the table of costs

  pick : (cell : Cell) → Found cells cell → Option Cost
  pick cell (inl h) = Some (cost_of_key (keys h.0))
  pick cell (inr none) = None

  costs : Cell → Option Cost
  costs cell = pick cell (find cells cell)

  costs_of_place : (place : ℕ) → place < length cells → costs (cell_of cells place) ≡ Some (cost_of_key (keys place))
  unfolding costs pick
  costs_of_place place l = go (find cells (cell_of cells place))
    where
      go : (found : Found cells (cell_of cells place)) → pick (cell_of cells place) found ≡ Some (cost_of_key (keys place))
      go (inl h) = ap (λ p. Some (cost_of_key (keys p))) (same_place cells table.numbered.once h.0 place h.1 l h.2)
      go (inr none) = absurd (none (one_of_cells cells place l))

  place_of_cost : (cell : Cell) (cost : Cost) → costs cell ≡ Some cost → (place : ℕ) × (place < length cells) × (cell_of cells place ≡ cell) × (cost_of_key (keys place) ≡ cost)
  unfolding costs pick
  place_of_cost cell cost e = go (find cells cell) e
    where
      go : (found : Found cells cell) → pick cell found ≡ Some cost → (place : ℕ) × (place < length cells) × (cell_of cells place ≡ cell) × (cost_of_key (keys place) ≡ cost)
      go (inl h) e = (h.0, h.1, h.2, (let s : cost_of_key (keys h.0) ≡ cost = cc in s))
      go (inr none) e = absurd (cc)

  cost_table : IsCostTable map (cell_of cells source) costs
  cost_table = record {
    start = costs_of_place source inside ∙ ap (λ k. Some (cost_of_key k)) source_key ∙ ap Some cost_of_zero;
    no_shorter = λ from move to cost e legal.
        let at = place_of_cost from cost e in
        let end = led at.0 move to at.1 (subst (λ c. IsLegal map c move to) (sym at.2) legal) in
        let q : ℕ = end_of (edges_of near at.0) move in
        let back : end_of (edges_of near q) (opposite move) ≡ at.0 = pair.back at.0 move (let w = whole in let l = at.1 in omega arith) (let w = whole in let l = end.0 in omega arith) in
        let most : keys q ≤ keys (end_of (edges_of near q) (opposite move)) + step_of (opposite move) = (settled q end.0).key.at_most (opposite move) in
        let same : keys (end_of (edges_of near q) (opposite move)) ≡ keys at.0 = ap keys back in
        let step : step_of (opposite move) ≡ step_of move = step_of-opposite move in
        let key : key_of cost ≡ keys at.0 = ap key_of (sym at.3) ∙ keyed at.0 at.1 in
        let more : key_of (after_step cost move) ≡ key_of cost + step_of move = key_more cost move in
        let next : key_of (cost_of_key (keys q)) ≡ keys q = keyed q end.0 in
        let low : keys q < GREATEST_KEY = small q end.0 in
        let low' : keys at.0 < GREATEST_KEY = small at.0 at.1 in
        let few : key_of (after_step cost move) < GREATEST_KEY + 47321 = omega (arith, step_most move) in (
          cost_of_key (keys q),
          subst (λ c. costs c ≡ Some (cost_of_key (keys q))) end.1 (costs_of_place q end.0),
          at_most_if_key (cost_of_key (keys q)) (after_step cost move) (few_diagonals (cost_of_key (keys q)) (omega arith)) (fewer (after_step cost move) few) (omega arith),
        );
    attained = λ to cost e apart.
        let at = place_of_cost to cost e in
        let other : at.0 ≢ source = λ same. apart (sym at.2 ∙ ap (cell_of cells) same) in
        let from = neighbour at.0 at.1 other in
        let end = attaining at.0 from.0 at.1 from.1 in
        let q : ℕ = end_of (edges_of near at.0) from.0 in
        let grown : cost_of_key (keys at.0) ≡ after_step (cost_of_key (keys q)) from.0 = step_cost (keys q) (keys at.0) from.0 (keyed q end.0) from.1 (small at.0 at.1) in (
          cell_of cells q,
          opposite from.0,
          cost_of_key (keys q),
          costs_of_place q end.0,
          subst (IsLegal map (cell_of cells q) (opposite from.0)) at.2 end.1,
          sym at.3 ∙ grown ∙ back_step (cost_of_key (keys q)) from.0,
        );
  }

  pub least_at : (place : ℕ) → place < length cells → IsLeastCost map (cell_of cells source) (cell_of cells place) (Some (cost_of_key (keys place)))
  least_at place l =
      subst (IsLeastCost map (cell_of cells source) (cell_of cells place)) (costs_of_place place l)
      (tables_are_least map (cell_of cells source) costs ((table.just.just_these (cell_of cells source)).1 (one_of_cells cells source inside)) cost_table (cell_of cells place))

pub solved_keys_are_least : SolvedKeysAreLeast
solved_keys_are_least map cells near source keys sets table inside solved place l =
    (cost_of_key (keys place), keyed map cells near source keys sets table table.pairs inside solved place l, least_at map cells near source keys sets table table.pairs inside solved place l)
