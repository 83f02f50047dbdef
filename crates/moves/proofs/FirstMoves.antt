-- The local law of first moves: a best path is cut before its last move, and a best path that ends where a best path
-- can go on by one move is made longer by that move.
use Rattle.std.proofs.Common.{◌≡◌, ◌≢◌, ◌⊎◌, inl, inr, refl, sym, ap, subst, ◌∙◌, List, [], ◌∷◌, ◌++◌, Some}
use Rattle.root_cost.specs.declared.Cost.{Cost}
use Rattle.root_cost.specs.Costs.{IsAtMost, no_cost}
use Rattle.root_cost.proofs.Adding.{step_not_at_most_none}
use Rattle.moves.specs.declared.Cell.{Cell}
use Rattle.moves.specs.declared.Move.{Move}
use Rattle.moves.specs.Maps.{Map}
use Rattle.moves.specs.Moves.{is_diagonal, IsLegal}
use Rattle.moves.specs.Paths.{cost_of, IsBest, IsLeastCost}
use Rattle.moves.specs.CostTables.{after_step}
use Rattle.moves.specs.FirstSets.{IsFirstMove, ComesBy, FirstMovesAreLocal}
use Rattle.moves.proofs.CostsOfPaths.{cost_of-cons, cost_of-push}
use Rattle.moves.proofs.LawsOfPaths.{leads_from, one_more, best_parts, same_cost_of_best}

-- a list with something in it is a front and a last element
unsnoc : (first : Move) (rest : List Move) → (front : List Move) × (last : Move) × (first ∷ rest ≡ front ++ last ∷ [])
unsnoc first [] = ([], first, refl)
unsnoc first (next ∷ rest) =
    let later = unsnoc next rest in
    (first ∷ later.0, later.1, ap (λ moves. first ∷ moves) later.2)

-- a best path to `before`, whose cost is one step less than the least cost of `to`, is best with that move more
pub best_more : (map : Map) (source before to : Cell) (moves : List Move) (last : Move) (cost : Cost)
    → IsLeastCost map source to (Some cost) → IsBest map source moves before → IsLegal map before last to → cost ≡ after_step (cost_of moves) last
    → IsBest map source (moves ++ last ∷ []) to
best_more map source before to moves last cost least best legal same = record {
  leads = one_more map source before to moves last best.leads legal;
  least = λ others path.
      let whole : cost_of (moves ++ last ∷ []) ≡ cost_of least.0 = cost_of-push moves last ∙ sym same ∙ sym least.2 in
      subst (λ c. IsAtMost c (cost_of others)) (sym whole) (least.1.least others path);
}

-- a best path that does not stay comes to its end by its last move
pub best_less : (map : Map) (source to : Cell) (moves : List Move) (last : Move) (cost : Cost)
    → IsLeastCost map source to (Some cost) → IsBest map source (moves ++ last ∷ []) to
    → (before : Cell) × IsBest map source moves before × ComesBy map source before last to cost
best_less map source to moves last cost least best =
    let parts = best_parts map source to moves (last ∷ []) best in
    let step = parts.2.leads in
    let legal : IsLegal map parts.0 last to = subst (λ x. IsLegal map parts.0 last x) step.2.1 step.1 in (
      parts.0,
      parts.1,
      record {
        legal = legal;
        least = cost_of moves;
        is_least = (moves, parts.1, refl);
        same = sym least.2 ∙ same_cost_of_best map source to least.0 (moves ++ last ∷ []) least.1 best ∙ cost_of-push moves last;
      },
    )

-- no best path from a cell to itself has a move
pub best_none : (map : Map) (cell : Cell) (moves : List Move) → IsBest map cell moves cell → moves ≡ []
best_none map cell [] best = refl
best_none map cell (move ∷ moves) best =
    let none = best.least [] (leads_from map cell cell (move ∷ moves) best.leads, refl) in
    absurd (step_not_at_most_none (cost_of moves) (is_diagonal move) (subst (λ c. IsAtMost c no_cost) (cost_of-cons move moves) none))

-- what the local law says of a first move
abbrev pub IsLocal : Map → Cell → Cell → Cost → Move → Type 0
IsLocal map source to cost move = (before : Cell) × (last : Move) × ComesBy map source before last to cost
    × (((before ≡ source) × (move ≡ last)) ⊎ ((before ≢ source) × IsFirstMove map source before move))

module _ (map : Map) (source to : Cell) (cost : Cost) (move : Move) (apart : source ≢ to) (least : IsLeastCost map source to (Some cost)) where
  first_if_local : (before : Cell) (last : Move) → ComesBy map source before last to cost
      → (((before ≡ source) × (move ≡ last)) ⊎ ((before ≢ source) × IsFirstMove map source before move)) → IsFirstMove map source to move
  first_if_local before last comes (inl h) =
      let way = comes.is_least in
      let stays : way.0 ≡ [] = best_none map source way.0 (subst (λ x. IsBest map source way.0 x) h.0 way.1) in
      let whole : cost ≡ after_step (cost_of way.0) last = comes.same ∙ ap (λ c. after_step c last) (sym way.2) in
      let best : IsBest map source (way.0 ++ last ∷ []) to = best_more map source before to way.0 last cost least way.1 comes.legal whole in
      inr ([], subst (λ m. IsBest map source (m ∷ []) to) (sym h.1) (subst (λ moves. IsBest map source (moves ++ last ∷ []) to) stays best))
  first_if_local before last comes (inr (away, inl here)) = absurd (away (sym here.0))
  first_if_local before last comes (inr (away, inr way)) =
      let known = comes.is_least in
      let cheap : cost_of (move ∷ way.0) ≡ comes.least =
      same_cost_of_best map source before (move ∷ way.0) known.0 way.1 known.1 ∙ known.2 in
      let whole : cost ≡ after_step (cost_of (move ∷ way.0)) last = comes.same ∙ ap (λ c. after_step c last) (sym cheap) in
      inr (way.0 ++ last ∷ [], best_more map source before to (move ∷ way.0) last cost least way.1 comes.legal whole)

  local_if_best : (rest : List Move) → IsBest map source (move ∷ rest) to → IsLocal map source to cost move
  local_if_best [] best =
      let cut = best_less map source to [] move cost least best in
      (cut.0, move, cut.2, inl (sym cut.1.leads.1, refl))
  local_if_best (next ∷ rest) best =
      let parts = unsnoc next rest in
      let front = parts.0 in
      let last = parts.1 in
      let same : move ∷ next ∷ rest ≡ (move ∷ front) ++ last ∷ [] = ap (λ moves. move ∷ moves) parts.2 in
      let cut = best_less map source to (move ∷ front) last cost least (subst (λ moves. IsBest map source moves to) same best) in
      let away : cut.0 ≢ source = λ e.
      let none : move ∷ front ≡ [] = best_none map source (move ∷ front) (subst (λ x. IsBest map source (move ∷ front) x) e cut.1) in cc in
      (cut.0, last, cut.2, inr (away, inr (front, cut.1)))

  local_if_first : IsFirstMove map source to move → IsLocal map source to cost move
  local_if_first (inl h) = absurd (apart h.0)
  local_if_first (inr h) = local_if_best h.0 h.1

pub first_moves_are_local : FirstMovesAreLocal
first_moves_are_local map source to cost move apart least =
    (local_if_first map source to cost move apart least, λ h. first_if_local map source to cost move apart least h.0 h.1 h.2 h.3)
