-- A table of costs that shows by itself that its costs are the least: no path is cheaper, and each cost is a path's.
use Rattle.std.proofs.Common.{◌≡◌, ℕ, zero, suc, ◌+◌, ◌<◌, ◌⊎◌, Bool, true, false, List, [], ◌∷◌, ◌++◌, Option, Some, None, refl, sym, ap, ◌∙◌, subst, inl, inr, arith}
use Rattle.std.proofs.lemmas.Bool.{cases_eq}
use Rattle.root_cost.specs.declared.Cost.{Cost}
use Rattle.root_cost.specs.Costs.{IsAtMost, no_cost, plus_step, sum_of}
use Rattle.root_cost.proofs.Order.{at_most_itself, at_most_trans}
use Rattle.root_cost.proofs.Adding.{sum_of-none, sum_of-none_first, at_most_sum, plus_step-sum_of_first, plus_step-sum_of}
use Rattle.moves.proofs.CostsOfPaths.{cost_of-cons, cost_of-push}
use Rattle.moves.proofs.LawsOfPaths.{one_more}
use Rattle.moves.specs.declared.Cell.{Cell}
use Rattle.moves.specs.declared.Move.{Move}
use Rattle.moves.specs.Maps.{Map, IsPassable}
use Rattle.moves.specs.Moves.{is_diagonal, IsLegal}
use Rattle.moves.specs.Paths.{Leads, cost_of, IsLeastCost}
use Rattle.moves.specs.CostTables.{IsCostTable, CostTablesAreLeast, after_step}

-- one cell or two
pub same_or_apart : (a b : Cell) → (a ≡ b) ⊎ (a ≡ b → ⊥)
same_or_apart a b = elim (cases_eq a.x b.x) [
  | inr h ↦ inr (λ e. h (ap (λ c. c.x) e))
  | inl h ↦ elim (cases_eq a.y b.y) [
    | inr k ↦ inr (λ e. k (ap (λ c. c.y) e))
    | inl k ↦ inl (λ i. record { x = h i; y = k i })
  ]
]

-- an option has one value
pub one_some : (x y : Cost) → Some x ≡ Some y → x ≡ y
one_some x y e = cc

step_counts : (before cost : Cost) (d : Bool) → cost ≡ plus_step before d
    → before.straight + before.diagonal + 1 ≡ cost.straight + cost.diagonal
step_counts before cost true e =
    let straight : cost.straight ≡ before.straight + 0 = ap (λ c. c.straight) e in
    let diagonal : cost.diagonal ≡ before.diagonal + 1 = ap (λ c. c.diagonal) e in
    omega arith
step_counts before cost false e =
    let straight : cost.straight ≡ before.straight + 1 = ap (λ c. c.straight) e in
    let diagonal : cost.diagonal ≡ before.diagonal + 0 = ap (λ c. c.diagonal) e in
    omega arith

module _ (map : Map) (source : Cell) (costs : Cell → Option Cost) (passable : IsPassable map source) (table : IsCostTable map source costs) where
  -- the table's cost of the cell is no more than that
  abbrev IsCheap : Cell → Cost → Type 0
  IsCheap to most = (least : Cost) × (costs to ≡ Some least) × IsAtMost least most

  -- a path from the source costs that
  abbrev Comes : Cell → Cost → Type 0
  Comes to cost = (moves : List Move) × Leads map source moves to × (cost_of moves ≡ cost)

  -- a cell before, from which a move attains the cost
  abbrev IsAttained : Cell → Cost → Type 0
  IsAttained to cost = (from : Cell) × (move : Move) × (before : Cost)
      × (costs from ≡ Some before) × IsLegal map from move to × (cost ≡ after_step before move)

  -- a path costs at least the difference of its ends' costs
  no_path_cheaper : (from to : Cell) (moves : List Move) (cost : Cost) → costs from ≡ Some cost → Leads map from moves to
      → IsCheap to (sum_of cost (cost_of moves))
  no_path_cheaper from to [] cost e leads =
      (cost, subst (λ c. costs c ≡ Some cost) leads.1 e, subst (IsAtMost cost) (sym (sum_of-none cost)) (at_most_itself cost))
  no_path_cheaper from to (move ∷ moves) cost e (next, legal, rest) =
      let step : IsCheap next (after_step cost move) = table.no_shorter from move next cost e legal in
      let further : IsCheap to (sum_of step.0 (cost_of moves)) = no_path_cheaper next to moves step.0 step.1 rest in
      let whole : sum_of (after_step cost move) (cost_of moves) ≡ sum_of cost (cost_of (move ∷ moves)) =
      sym (plus_step-sum_of_first cost (cost_of moves) (is_diagonal move))
      ∙ plus_step-sum_of cost (cost_of moves) (is_diagonal move) ∙ ap (sum_of cost) (sym (cost_of-cons move moves)) in
      let stepped : IsAtMost (sum_of step.0 (cost_of moves)) (sum_of (after_step cost move) (cost_of moves)) =
      at_most_sum step.0 (after_step cost move) (cost_of moves) step.2 in
      (further.0, further.1, subst (IsAtMost further.0) whole (at_most_trans further.0 _ _ further.2 stepped))

  -- back from a cell to the source, each step falls
  some_path_costs : (bound : ℕ) (to : Cell) (cost : Cost) → cost.straight + cost.diagonal < bound → costs to ≡ Some cost
      → Comes to cost
  some_path_costs zero to cost below e = absurd (omega arith)
  some_path_costs (suc bound) to cost below e = elim (same_or_apart to source) [
    | inl same ↦
        let none : no_cost ≡ cost = one_some no_cost cost (sym table.start ∙ ap costs (sym same) ∙ e) in
        ([], (passable, sym same), none)
    | inr apart ↦
        let last : IsAttained to cost = table.attained to cost e apart in
        let counts : last.2.straight + last.2.diagonal + 1 ≡ cost.straight + cost.diagonal = step_counts last.2 cost (is_diagonal last.1) last.5 in
        let front : Comes last.0 last.2 = some_path_costs bound last.0 last.2 (omega arith) last.3 in (
          front.0 ++ last.1 ∷ [],
          one_more map source last.0 to front.0 last.1 front.1 last.4,
          cost_of-push front.0 last.1 ∙ ap (λ c. plus_step c (is_diagonal last.1)) front.2 ∙ sym last.5,
        )
  ]

  none_cheaper : (cell : Cell) (cost : Cost) → costs cell ≡ Some cost → (others : List Move)
      → Leads map source others cell → IsAtMost cost (cost_of others)
  none_cheaper cell cost e others leads =
      let least : IsCheap cell (sum_of no_cost (cost_of others)) = no_path_cheaper source cell others no_cost table.start leads in
      let same : least.0 ≡ cost = one_some least.0 cost (sym least.1 ∙ e) in
      subst (λ c. IsAtMost c (cost_of others)) same (subst (IsAtMost least.0) (sum_of-none_first (cost_of others)) least.2)

  least_if : (cell : Cell) (cost : Option Cost) → costs cell ≡ cost → IsLeastCost map source cell cost
  least_if cell None e = λ (moves, leads).
      let reached : IsCheap cell (sum_of no_cost (cost_of moves)) = no_path_cheaper source cell moves no_cost table.start leads in
      let both : Some reached.0 ≡ None = sym reached.1 ∙ e in cc
  least_if cell (Some cost) e =
      let path : Comes cell cost = some_path_costs (suc (cost.straight + cost.diagonal)) cell cost (omega arith) e in
      let least : (others : List Move) → Leads map source others cell → IsAtMost (cost_of path.0) (cost_of others) =
      λ others leads. subst (λ c. IsAtMost c (cost_of others)) (sym path.2) (none_cheaper cell cost e others leads) in
      (path.0, record { leads = path.1; least = least }, path.2)

pub tables_are_least : CostTablesAreLeast
tables_are_least map source costs passable table cell = least_if map source costs passable table cell (costs cell) refl
