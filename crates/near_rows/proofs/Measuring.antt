-- The cost of a near walk, move by move.
use Rattle.std.proofs.Common.{◌≡◌, ℕ, ◌+◌, ◌<◌, Bool, true, false, Some, None, refl, sym, ap, ◌∙◌, arith}
use Rattle.root_cost.specs.declared.Cost.{Cost}
use Rattle.root_cost.specs.Costs.{no_cost, plus_step, sum_of}
use Rattle.root_cost.proofs.Order.{same_fields}
use Rattle.root_cost.proofs.Adding.{sum_of-none, sum_of-none_first}
use Rattle.moves.specs.declared.Move.{Move}
use Rattle.moves.specs.declared.TheConstants.{MAX_PASSABLE}
use Rattle.moves.specs.Moves.{is_diagonal}
use Rattle.moves.specs.Paths.{cost_of}
use Rattle.moves.proofs.CostsOfPaths.{cost_of-cons}
use Rattle.near_rows.specs.NearWalks.{NearWalking, Advances, HasFewAhead, CostsAhead}
use Rattle.near_rows.proofs.Following.{IsFollowed, followed_none, followed_more, followed_all, turns_left}

-- a walk that was measured for some turns
pub record IsMeasured (start walk : NearWalking) (cost : Cost) (turns : ℕ) : Type 0 where
  pub followed : IsFollowed cost_of (λ cost rest. sum_of cost (cost_of rest)) start walk cost turns
  pub steps : cost.straight + cost.diagonal ≡ turns

pub measured_none : (start : NearWalking) → HasFewAhead start → IsMeasured start start no_cost 0
measured_none start few = record {
  followed = followed_none cost_of (λ cost rest. sum_of cost (cost_of rest)) start no_cost (λ moves. sym (sum_of-none_first (cost_of moves))) few;
  steps = refl;
}

-- a step moves from what is ahead to what is counted
moved_step : (cost rest : Cost) (d : Bool) → sum_of cost (plus_step rest d) ≡ sum_of (plus_step cost d) rest
moved_step cost rest true = same_fields _ _ (omega arith) (omega arith)
moved_step cost rest false = same_fields _ _ (omega arith) (omega arith)

more_steps : (cost : Cost) (d : Bool) → (plus_step cost d).straight + (plus_step cost d).diagonal ≡ cost.straight + cost.diagonal + 1
more_steps cost true = omega arith
more_steps cost false = omega arith

module _ (start walk : NearWalking) (cost : Cost) (turns : ℕ) (p : IsMeasured start walk cost turns) where
  -- there are turns to come while moves are ahead
  pub turns_to_come : turns < MAX_PASSABLE
  turns_to_come = turns_left _ _ start walk cost turns p.followed

  pub measured_more : (next : NearWalking) (move : Move) → Advances walk next (Some move) → IsMeasured start next (plus_step cost (is_diagonal move)) (turns + 1)
  measured_more next move step = record {
    followed = followed_more _ _ start walk cost turns p.followed next (plus_step cost (is_diagonal move)) move step
        (λ rest. ap (sum_of cost) (cost_of-cons move rest) ∙ moved_step cost (cost_of rest) (is_diagonal move));
    steps = (let now = more_steps cost (is_diagonal move) in let before = p.steps in omega arith);
  }

  pub measured_all : (next : NearWalking) → Advances walk next None → CostsAhead start cost
  measured_all next step = λ moves ahead. sym (followed_all _ _ start walk cost turns p.followed next step moves ahead ∙ sum_of-none cost)
