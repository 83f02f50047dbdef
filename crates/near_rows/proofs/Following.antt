-- What is gathered of a near walk, move by move: what all the moves give is what was gathered with the moves that are left.
use Rattle.std.proofs.Common.{◌≡◌, ℕ, ◌+◌, ◌<◌, List, [], ◌∷◌, length, Some, None, ap, ◌∙◌, arith}
use Rattle.moves.specs.declared.Move.{Move}
use Rattle.moves.specs.declared.TheConstants.{MAX_PASSABLE}
use Rattle.near_rows.specs.NearWalks.{NearWalking, IsAhead, Advances, HasFewAhead}

module _ {G X : Type 0} (of : List Move → X) (with_rest : G → List Move → X) where
  -- what is left of some moves that were ahead at the start
  pub record IsLeft (walk : NearWalking) (gathered : G) (turns : ℕ) (moves : List Move) : Type 0 where
    pub rest : List Move
    pub ahead : IsAhead walk rest
    pub whole : of moves ≡ with_rest gathered rest
    pub long : length moves ≡ turns + length rest

  -- a walk that was followed for some turns
  pub record IsFollowed (start walk : NearWalking) (gathered : G) (turns : ℕ) : Type 0 where
    pub left : (moves : List Move) → IsAhead start moves → IsLeft walk gathered turns moves
    pub few : HasFewAhead start

  pub followed_none : (start : NearWalking) (gathered : G) → ((moves : List Move) → of moves ≡ with_rest gathered moves) → HasFewAhead start
      → IsFollowed start start gathered 0
  followed_none start gathered same few = record {
    left = λ moves ahead. record { rest = moves; ahead = ahead; whole = same moves; long = omega arith };
    few = few;
  }

  module _ (start walk : NearWalking) (gathered : G) (turns : ℕ) (p : IsFollowed start walk gathered turns) where
    -- there are turns to come while moves are ahead
    pub turns_left : turns < MAX_PASSABLE
    turns_left =
        let left = p.left p.few.0 p.few.1 in
        let few = p.few.2 in
        let long = left.long in
        omega arith

    pub followed_more : (next : NearWalking) (after : G) (move : Move) → Advances walk next (Some move)
        → ((rest : List Move) → with_rest gathered (move ∷ rest) ≡ with_rest after rest) → IsFollowed start next after (turns + 1)
    followed_more next after move step same = record {
      left = λ moves ahead.
          (let left = p.left moves ahead in
          let taken = step.ahead left.rest left.ahead in
          let count = ap length taken.1 in
          let long = left.long in
          record {
            rest = taken.0;
            ahead = taken.2;
            whole = left.whole ∙ ap (with_rest gathered) taken.1 ∙ same taken.0;
            long = omega arith;
          });
      few = p.few;
    }

    pub followed_all : (next : NearWalking) → Advances walk next None → (moves : List Move) → IsAhead start moves
        → of moves ≡ with_rest gathered []
    followed_all next step moves ahead =
        let left = p.left moves ahead in
        let none = step.ahead left.rest left.ahead in
        left.whole ∙ ap (with_rest gathered) none.0
