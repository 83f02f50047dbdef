-- First sets by keys alone: costs are the same both ways, so a search from the goal tells the first moves to it.
use Rattle.std.proofs.Common.{◌≡◌, ◌≢◌, ℕ, ◌+◌, ◌<◌, ◌↔◌, List, [], ◌∷◌, length, Some, inl, inr, refl, sym, ap, subst, ◌∙◌, arith}
use Rattle.root_cost.specs.Keys.{key_of, cost_of_key}
use Rattle.moves.specs.declared.Cell.{Cell}
use Rattle.moves.specs.declared.Move.{Move}
use Rattle.moves.specs.Maps.{Map}
use Rattle.moves.specs.Moves.{opposite, IsLegal}
use Rattle.moves.specs.Paths.{IsBest, IsLeastCost, cost_of}
use Rattle.moves.specs.CostTables.{after_step}
use Rattle.moves.specs.FirstSets.{IsFirstMove}
use Rattle.moves.specs.FirstSetLists.{cell_of}
use Rattle.moves.proofs.CostsOfPaths.{cost_of-cons}
use Rattle.moves.proofs.LawsOfPaths.{best_parts}
use Rattle.moves.proofs.LeastCosts.{best_of_least, least_back, same_least}
use Rattle.moves.proofs.MoveLaws.{legal_back, opposite-opposite}
use Rattle.lane_rows.specs.Tables.{edges_of, end_of}
use Rattle.lane_rows.specs.Equations.{offered, step_of}
use Rattle.lane_rows.specs.Visits.{AreSolved}
use Rattle.lane_rows.specs.Laws.{IsTableOf}
use Rattle.lane_rows.proofs.Indexing.{same_place}
use Rattle.lane_rows.proofs.Exact.{key_more, step_cost, small, led, attaining, keyed, least_at}

module _ (map : Map) (cells : List Cell) (near : List (List ℕ)) (goal : ℕ) (keys sets : ℕ → ℕ) (table : IsTableOf map cells near) (inside : goal < length cells)
    (solved : AreSolved near goal keys sets) where
  -- the key of a place is that of the least cost from there to the goal
  pub least_to_goal : (place : ℕ) → place < length cells → IsLeastCost map (cell_of cells place) (cell_of cells goal) (Some (cost_of_key (keys place)))
  least_to_goal place l =
      least_back map (cell_of cells goal) (cell_of cells place) (Some (cost_of_key (keys place))) (least_at map cells near goal keys sets table table.pairs inside solved place l)

  key_is : (place : ℕ) → place < length cells → key_of (cost_of_key (keys place)) ≡ keys place
  key_is place l = keyed map cells near goal keys sets table table.pairs inside solved place l

  abbrev to : ℕ → Move → ℕ
  to place move = end_of (edges_of near place) move

  module _ (place : ℕ) (move : Move) (l : place < length cells) (apart : place ≢ goal) where
    other_cell : cell_of cells place ≢ cell_of cells goal
    other_cell same = apart (same_place cells table.numbered.once place goal l inside same)

    attained_if_first : IsFirstMove map (cell_of cells place) (cell_of cells goal) move
        → (to place move < length cells) × (keys place ≡ offered (edges_of near place) keys move)
    attained_if_first (inl here) = absurd (other_cell here.0)
    attained_if_first (inr path) =
        let parts = best_parts map (cell_of cells place) (cell_of cells goal) (move ∷ []) path.0 path.1 in
        let legal : IsLegal map (cell_of cells place) move parts.0 = subst (IsLegal map (cell_of cells place) move) parts.1.leads.2.1 parts.1.leads.1 in
        let end = led map cells near goal keys sets table table.pairs inside solved place move parts.0 l legal in
        let q : ℕ = to place move in
        let rest : IsBest map (cell_of cells q) path.0 (cell_of cells goal) = subst (λ c. IsBest map c path.0 (cell_of cells goal)) (sym end.1) parts.2 in
        let later : Some (cost_of path.0) ≡ Some (cost_of_key (keys q)) = same_least map (cell_of cells q) (cell_of cells goal) (Some (cost_of path.0)) (Some (cost_of_key (keys q))) (path.0, rest, refl) (least_to_goal q end.0) in
        let whole : Some (cost_of (move ∷ path.0)) ≡ Some (cost_of_key (keys place)) =
        same_least map (cell_of cells place) (cell_of cells goal) (Some (cost_of (move ∷ path.0))) (Some (cost_of_key (keys place))) (move ∷ path.0, path.1, refl) (least_to_goal place l) in
        let later_cost : cost_of path.0 ≡ cost_of_key (keys q) = cc in
        let whole_cost : cost_of (move ∷ path.0) ≡ cost_of_key (keys place) = cc in
        let grown : key_of (cost_of (move ∷ path.0)) ≡ key_of (cost_of path.0) + step_of move = ap key_of (cost_of-cons move path.0) ∙ key_more (cost_of path.0) move in
        let here : key_of (cost_of (move ∷ path.0)) ≡ keys place = ap key_of whole_cost ∙ key_is place l in
        let there : key_of (cost_of path.0) ≡ keys q = ap key_of later_cost ∙ key_is q end.0 in
        (end.0, omega arith)

    first_if_attained : keys place ≡ offered (edges_of near place) keys move → IsFirstMove map (cell_of cells place) (cell_of cells goal) move
    first_if_attained e =
        let q : ℕ = to place move in
        let end = attaining map cells near goal keys sets table table.pairs inside solved place move l e in
        let legal : IsLegal map (cell_of cells place) move (cell_of cells q) =
        subst (λ m. IsLegal map (cell_of cells place) m (cell_of cells q)) (opposite-opposite move) (legal_back map (cell_of cells q) (opposite move) (cell_of cells place) end.1) in
        let rest = least_to_goal q end.0 in
        let grown : cost_of_key (keys place) ≡ after_step (cost_of_key (keys q)) move =
        step_cost (keys q) (keys place) move (key_is q end.0) e (small map cells near goal keys sets table table.pairs inside solved place l) in
        let cost : cost_of (move ∷ rest.0) ≡ cost_of_key (keys place) = cost_of-cons move rest.0 ∙ ap (λ c. after_step c move) rest.2 ∙ sym grown in
        inr (rest.0, best_of_least map (cell_of cells place) (cell_of cells goal) (move ∷ rest.0) (cost_of_key (keys place)) (least_to_goal place l) (cell_of cells q, legal, rest.1.leads) cost)

    -- a move begins a best path to the goal where it leads to a place whose key and the step make the key
    pub first_by_keys : IsFirstMove map (cell_of cells place) (cell_of cells goal) move
        ↔ ((to place move < length cells) × (keys place ≡ offered (edges_of near place) keys move))
    first_by_keys = (attained_if_first, λ h. first_if_attained h.1)
