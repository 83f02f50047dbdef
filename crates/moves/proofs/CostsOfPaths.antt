-- The cost of a list of moves, move by move.
use Rattle.std.proofs.Common.{◌≡◌, ℕ, ◌+◌, Bool, true, false, not, cond, List, [], ◌∷◌, ◌++◌, length, map, refl, sym, ap, ◌∙◌, add-one, arith}
use Rattle.std.proofs.lemmas.List.Sums.{sum_by-append, sum_by-cons}
use Rattle.std.proofs.lemmas.List.{reverse-append}
use Rattle.root_cost.specs.Costs.{no_cost, plus_step, sum_of}
use Rattle.root_cost.proofs.Order.{same_fields}
use Rattle.root_cost.proofs.Adding.{sum_of-none, plus_step-sum_of}
use Rattle.moves.specs.declared.Move.{Move}
use Rattle.moves.specs.Moves.{is_diagonal, opposite}
use Rattle.moves.specs.Paths.{cost_of}
use Rattle.moves.specs.PathLaws.{back_along}
use Rattle.moves.proofs.MoveLaws.{is_diagonal-opposite}

-- one more or none in front of a count, as a step adds it
counted : (b : Bool) (m n s d : ℕ) → s ≡ cond (not b) 1 0 + m → d ≡ cond b 1 0 + n → (s ≡ m + cond b 0 1) × (d ≡ n + cond b 1 0)
counted true m n s d p q = (omega arith, omega arith)
counted false m n s d p q = (omega arith, omega arith)

-- one move more in front is one step more
pub cost_of-cons : (move : Move) (moves : List Move) → cost_of (move ∷ moves) ≡ plus_step (cost_of moves) (is_diagonal move)
cost_of-cons move moves =
    let parts = counted (is_diagonal move) (cost_of moves).straight (cost_of moves).diagonal (cost_of (move ∷ moves)).straight (cost_of (move ∷ moves)).diagonal
    (sum_by-cons (λ m. cond (not (is_diagonal m)) 1 0) move moves) (sum_by-cons (λ m. cond (is_diagonal m) 1 0) move moves) in
    same_fields _ _ parts.0 parts.1

-- the cost of two lists of moves, one after the other, is the sum
pub cost_of-append : (first rest : List Move) → cost_of (first ++ rest) ≡ sum_of (cost_of first) (cost_of rest)
cost_of-append first rest =
    same_fields _ _ (sum_by-append (λ m. cond (not (is_diagonal m)) 1 0) first rest) (sum_by-append (λ m. cond (is_diagonal m) 1 0) first rest)

-- one move more at the end is one step more
pub cost_of-push : (moves : List Move) (move : Move) → cost_of (moves ++ move ∷ []) ≡ plus_step (cost_of moves) (is_diagonal move)
cost_of-push moves move =
    cost_of-append moves (move ∷ []) ∙ ap (sum_of (cost_of moves)) (cost_of-cons move []) ∙ sym (plus_step-sum_of (cost_of moves) no_cost (is_diagonal move))
    ∙ ap (λ c. plus_step c (is_diagonal move)) (sum_of-none (cost_of moves))

-- a list of moves has as many moves as its cost counts
pub moves_of_cost : (moves : List Move) → (cost_of moves).straight + (cost_of moves).diagonal ≡ length moves
moves_of_cost [] = refl
moves_of_cost (move ∷ moves) =
    let more = cost_of-cons move moves in
    let all = moves_of_cost moves in
    let step : (b : Bool) → (plus_step (cost_of moves) b).straight + (plus_step (cost_of moves) b).diagonal ≡ length moves + 1
    = λ b. elim b as (λ v. (plus_step (cost_of moves) v).straight + (plus_step (cost_of moves) v).diagonal ≡ length moves + 1) [
      | true ↦ omega arith
      | false ↦ omega arith
    ] in
    ap (λ c. c.straight + c.diagonal) more ∙ step (is_diagonal move) ∙ add-one (length moves)

-- back along the moves, the last one first
pub back_along-cons : (move : Move) (moves : List Move) → back_along (move ∷ moves) ≡ back_along moves ++ opposite move ∷ []
back_along-cons move moves = reverse-append (opposite move ∷ []) (map opposite moves)

-- the way back costs the same
pub cost_of-back_along : (moves : List Move) → cost_of (back_along moves) ≡ cost_of moves
cost_of-back_along [] = refl
cost_of-back_along (move ∷ moves) =
    ap cost_of (back_along-cons move moves) ∙ cost_of-push (back_along moves) (opposite move)
    ∙ ap (plus_step (cost_of (back_along moves))) (is_diagonal-opposite move)
    ∙ ap (λ c. plus_step c (is_diagonal move)) (cost_of-back_along moves) ∙ sym (cost_of-cons move moves)
