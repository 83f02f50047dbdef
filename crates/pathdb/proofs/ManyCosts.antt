-- Costs that are put into a room.
use Rattle.std.proofs.Common.{◌≡◌, ℕ, ◌+◌, ◌<◌, ◌≤◌, List, length, get_or, set, refl, sym, ap, subst, inl, inr, arith, ◌∙◌}
use Rattle.std.proofs.lemmas.Bool.{cases_lt}
use Rattle.std.proofs.lemmas.List.{get_or-set_other, get_or-set_same, length-set}
use Rattle.moves.specs.declared.Cell.{Cell}
use Rattle.pathdb.specs.declared.queries.PathdbCell.{PathdbCell}
use Rattle.pathdb.specs.declared.queries.PathdbCost.{PathdbCost}
use Rattle.pathdb.specs.Costs.{IsCostFor, goal_at, no_cost}

-- those of the first goals stand in the room, and the others are as they were
pub record AreCosts (words : List ℕ) (start : Cell) (goals : List PathdbCell) (old room : List PathdbCost) (count : ℕ) : Type 0 where
  pub whole : length room ≡ length old
  pub each : (number : ℕ) → number < count → IsCostFor words start (goal_at goals number) (get_or room number no_cost)
  pub rest : (number : ℕ) → count ≤ number → get_or room number no_cost ≡ get_or old number no_cost

pub costs_none : (words : List ℕ) (start : Cell) (goals : List PathdbCell) (old : List PathdbCost) → AreCosts words start goals old old 0
costs_none words start goals old = record { whole = refl; each = λ number less. absurd (omega arith); rest = λ number more. refl }

-- one more
pub costs_more : (words : List ℕ) (start : Cell) (goals : List PathdbCell) (old room new : List PathdbCost) (count : ℕ) (cost : PathdbCost)
    → AreCosts words start goals old room count → count < length old → IsCostFor words start (goal_at goals count) cost
    → new ≡ set room count cost → AreCosts words start goals old new (count + 1)
costs_more words start goals old room new count cost p within is same =
    let whole = p.whole in
    record {
      whole = ap length same ∙ length-set room count cost ∙ whole;
      each = λ number less. subst (λ xs. IsCostFor words start (goal_at goals number) (get_or xs number no_cost)) (sym same)
          (elim (cases_lt number count) [
            | inl early ↦ subst (IsCostFor words start (goal_at goals number)) (sym (get_or-set_other room count number cost no_cost (omega arith)))
                (p.each number early)
            | inr late ↦
                let here : count ≡ number = omega arith in
                let read = get_or-set_same room count cost no_cost (omega arith) in
                subst (λ k. IsCostFor words start (goal_at goals k) (get_or (set room count cost) k no_cost)) here
                (subst (IsCostFor words start (goal_at goals count)) (sym read) is)
          ]);
      rest = λ number more. ap (λ xs. get_or xs number no_cost) same ∙ get_or-set_other room count number cost no_cost (omega arith)
          ∙ p.rest number (omega arith);
    }
