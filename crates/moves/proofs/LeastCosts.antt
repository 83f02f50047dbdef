-- Least costs, from either end.
use Rattle.std.proofs.Common.{◌≡◌, ◌≢◌, List, [], ◌∷◌, Option, Some, None, refl, sym, ap, subst, ◌∙◌}
use Rattle.root_cost.specs.declared.Cost.{Cost}
use Rattle.moves.specs.declared.Cell.{Cell}
use Rattle.moves.specs.declared.Move.{Move}
use Rattle.moves.specs.Maps.{Map}
use Rattle.moves.specs.Moves.{IsLegal}
use Rattle.moves.specs.Paths.{Leads, cost_of, IsBest, IsLeastCost}
use Rattle.moves.specs.PathLaws.{back_along}
use Rattle.moves.specs.CostTables.{after_step}
use Rattle.moves.proofs.CostsOfPaths.{cost_of-cons, cost_of-back_along}
use Rattle.moves.proofs.LawsOfPaths.{best_parts, leads_back, same_cost_of_best}

-- a path of the least cost is best
pub best_of_least : (map : Map) (a b : Cell) (moves : List Move) (cost : Cost) → IsLeastCost map a b (Some cost)
    → Leads map a moves b → cost_of moves ≡ cost → IsBest map a moves b
best_of_least map a b moves cost least path same = record {
  leads = path;
  least = λ others other. rw (same, ← least.2) (least.1.least others other);
}

-- the way back along a best path is best
pub best_back : (map : Map) (a b : Cell) (moves : List Move) → IsBest map a moves b → IsBest map b (back_along moves) a
best_back map a b moves best = record {
  leads = leads_back map a b moves best.leads;
  least = λ others other. rw (cost_of-back_along moves, ← cost_of-back_along others) (best.least (back_along others) (leads_back map b a others other));
}

-- the least cost is the same from the other end
pub least_back : (map : Map) (a b : Cell) (cost : Option Cost) → IsLeastCost map a b cost → IsLeastCost map b a cost
least_back map a b None least = λ reached. least (back_along reached.0, leads_back map b a reached.0 reached.1)
least_back map a b (Some cost) least = (back_along least.0, best_back map a b least.0 least.1, cost_of-back_along least.0 ∙ least.2)

-- two cells have one least cost
pub same_least : (map : Map) (a b : Cell) (x y : Option Cost) → IsLeastCost map a b x → IsLeastCost map a b y → x ≡ y
same_least map a b None None p q = refl
same_least map a b None (Some y) p q = absurd (p (q.0, q.1.leads))
same_least map a b (Some x) None p q = absurd (q (p.0, p.1.leads))
same_least map a b (Some x) (Some y) p q = ap Some (sym p.2 ∙ same_cost_of_best map a b p.0 q.0 p.1 q.1 ∙ q.2)

-- From a cell other than the goal, some legal move leads to a cell whose least cost is one such step less.
pub least_begins : (map : Map) (a goal : Cell) (cost : Cost) → a ≢ goal → IsLeastCost map a goal (Some cost)
    → (move : Move) × (next : Cell) × (rest : Cost) × IsLegal map a move next × IsLeastCost map next goal (Some rest) × (cost ≡ after_step rest move)
least_begins map a goal cost apart least = begins least.0 least.1 least.2
  where
    begins : (moves : List Move) → IsBest map a moves goal → cost_of moves ≡ cost
        → (move : Move) × (next : Cell) × (rest : Cost) × IsLegal map a move next × IsLeastCost map next goal (Some rest) × (cost ≡ after_step rest move)
    begins [] best same = absurd (apart best.leads.1)
    begins (move ∷ moves) best same =
        let parts = best_parts map a goal (move ∷ []) moves best in
        (move, parts.0, cost_of moves, subst (IsLegal map a move) parts.1.leads.2.1 parts.1.leads.1, (moves, parts.2, refl), sym same ∙ cost_of-cons move moves)
