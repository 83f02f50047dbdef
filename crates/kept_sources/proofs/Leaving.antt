-- The law of the ball: from its last cell in the ball on, nothing on a path depends on what is taken out.
use Rattle.std.proofs.Common.{◌≡◌, ◌⊎◌, Bool, true, false, List, [], ◌∷◌, sym, ◌∙◌, subst, inl, inr, refl}
use Rattle.std.proofs.lemmas.Bool.{false≢true, cases_Bool}
use Rattle.moves.specs.declared.Cell.{Cell}
use Rattle.moves.specs.declared.Move.{Move}
use Rattle.moves.specs.Maps.{Map, IsPassable}
use Rattle.moves.specs.Moves.{opposite, IsLegal}
use Rattle.moves.specs.Paths.{Leads}
use Rattle.moves.proofs.MoveLaws.{IsNear, legal_near, legal_back}
use Rattle.moves.proofs.BestPaths.{passable_or_not}
use Rattle.kept_sources.specs.Parts.{without, IsPart, IsTakenOut}
use Rattle.kept_sources.specs.Balls.{IsBeside, IsRoundAll, LeadsOut, AgreesOnBall, AgreesEverywhere, BallsRoundAllKeepSources, BallsKeepSources}
use Rattle.kept_sources.proofs.Parting.{legal_if_back, stays, none_first}
use Rattle.kept_sources.proofs.Closing.{without_is_part, only_this}
use Rattle.kept_sources.proofs.Rejoining.{Rejoins, rejoins_later, Agrees, rejoined_first, rejoined_cost}

-- a path of the part on which no cell is in the ball
record StaysOut (part : Map) (ball : Cell → Bool) (from : Cell) (moves : List Move) (to : Cell) : Type 0 where
  out : ball from ≡ false
  free : IsPassable part from
  path : Leads part from moves to

module _ (map part : Map) (ball : Cell → Bool) (is_part : IsPart map part) (round : IsRoundAll map part ball) where
  -- no cell near one outside the ball is taken out
  near_stays : (from other : Cell) → ball from ≡ false → IsPassable part from → IsNear from other → IsPassable map other → IsPassable part other
  near_stays from other out free near was = stays map part is_part other was (λ taken.
      (let apart : from ≡ other → ⊥ = λ same. taken.gone (subst (IsPassable part) same free) in
      false≢true (sym out ∙ round other from taken free
      (record { left = near.left; right = near.right; above = near.above; below = near.below; apart = apart }))))

  -- a legal move to a cell outside the ball that is not taken out is legal in the part too
  legal_to_outside : (from : Cell) (move : Move) (to : Cell) → ball to ≡ false → IsPassable part to → IsLegal map from move to → IsLegal part from move to
  legal_to_outside from move to out free legal =
      legal_if_back map part is_part from move to
      (legal_near map part to (opposite move) from
      (λ c near like. (is_part.alike to c free (near_stays to c out free near like.passable)).0 like) (legal_back map from move to legal))

  -- the cell is in the ball, and a move leads out of it
  abbrev pub IsKnown : Cell → Type 0
  IsKnown cell = (ball cell ≡ true) × LeadsOut part ball cell

  split : (from : Cell) (moves : List Move) (to : Cell) → Leads map from moves to → ball to ≡ false → (IsTakenOut map part to → ⊥)
      → StaysOut part ball from moves to ⊎ Rejoins map part IsKnown from moves to
  split from [] to path out left =
      let free = stays map part is_part from path.0 (subst (λ c. IsTakenOut map part c → ⊥) (sym path.1) left) in
      inl (record { out = subst (λ c. ball c ≡ false) (sym path.1) out; free = free; path = (free, path.1) })
  split from (move ∷ moves) to path out left =
      elim (split path.0 moves to path.2 out left) [
        | inr later ↦ inr (rejoins_later map part IsKnown from move moves to path later)
        | inl stay ↦
            let legal = legal_to_outside from move path.0 stay.out stay.free path.1 in
            elim (cases_Bool (ball from)) [
              | inr none ↦ inl (record { out = none; free = legal.leaves; path = (path.0, legal, stay.path) })
              | inl there ↦ inr (record {
                first = [];
                move = move;
                rest = moves;
                last = from;
                whole = refl;
                at = (there, (move, path.0, legal, stay.out));
                front = (path.1.leaves, refl);
                back = (path.0, legal, stay.path);
              })
            ]
      ]

  module _ (source : Cell) (keeps : AgreesOnBall map part ball source) where
    agrees : Agrees map part source IsKnown
    agrees = record {
      first = λ at (there, leads). keeps.first at there leads.2.leaves;
      cost = λ at (there, leads). keeps.cost at there leads;
    }

    split_path : (to : Cell) → ball to ≡ false → (IsTakenOut map part to → ⊥) → (moves : List Move) → Leads map source moves to
        → Leads part source moves to ⊎ Rejoins map part IsKnown source moves to
    split_path to out left moves path = elim (split source moves to path out left) [ inl stay ↦ inl stay.path | inr later ↦ inr later ]

    keeps_everywhere : AgreesEverywhere map part ball source
    keeps_everywhere = record {
      first = λ to left.
          elim (cases_Bool (ball to)) [
            | inr out ↦ rejoined_first map part is_part source to IsKnown agrees (split_path to out left)
            | inl there ↦ elim (passable_or_not map to) [
              | inl free ↦ keeps.first to there (stays map part is_part to free left)
              | inr blocked ↦ none_first map part is_part source to blocked
            ]
          ];
      cost = λ to left out. rejoined_cost map part is_part source to IsKnown agrees (split_path to out left);
    }

pub balls_round_all_keep_sources : BallsRoundAllKeepSources
balls_round_all_keep_sources map part ball source is_part round keeps = keeps_everywhere map part ball is_part round source keeps

pub balls_keep_sources : BallsKeepSources
balls_keep_sources map cell source ball inside is_ball keeps =
    let part = without map cell in
    let only = only_this map cell inside in
    let all = balls_round_all_keep_sources map part ball source (without_is_part map cell inside)
    (λ taken other gone free beside. is_ball.round other (subst (λ c. IsBeside c other) (only taken gone) beside))
    (record { first = λ to there free. keeps.first to there; cost = keeps.cost }) in
    record {
      first = λ to apart. all.first to (λ taken. apart (only to taken));
      cost = λ to apart out. all.cost to (λ taken. apart (only to taken)) out;
    }
