-- Moves and paths of a map and of a live map of it.
use Rattle.std.proofs.Common.{◌↔◌, List, [], ◌∷◌, Some, sym, subst, ◌∙◌}
use Rattle.root_cost.specs.declared.Cost.{Cost}
use Rattle.root_cost.specs.Costs.{IsAtMost}
use Rattle.moves.specs.declared.Cell.{Cell}
use Rattle.moves.specs.declared.Move.{Move}
use Rattle.moves.specs.Maps.{Map}
use Rattle.moves.specs.Moves.{IsLegal}
use Rattle.moves.specs.Paths.{IsBest, IsLeastCost, Leads, Reaches, cost_of}
use Rattle.moves.proofs.MoveLaws.{same_target}
use Rattle.kept_sources.specs.Parts.{IsPart}
use Rattle.kept_sources.proofs.Parting.{leads_of_part, legal_in_part, legal_of_part}
use Rattle.versions.specs.Databases.{Versioned}
use Rattle.versions.specs.Answers.{IsWalk}
use Rattle.live_maps.specs.Live.{IsFree, IsFreeAlong, IsLive}

module _ (baked live : Map) (is : IsLive baked live) where
  -- a live map is a part of its baked map
  pub part : IsPart baked live
  part = record {
    passable = is.passable;
    alike = λ cell other in_cell in_other. (
      λ like. record { passable = in_other; same = is.same other in_other ∙ like.same ∙ sym (is.same cell in_cell) },
      λ like. record { passable = is.passable other in_other; same = sym (is.same other in_other) ∙ like.same ∙ is.same cell in_cell },
    );
  }

  -- the cells that a legal move has to do with are passable
  pub free_move : (from : Cell) (move : Move) (to : Cell) → IsLegal live from move to → IsFree live from move to
  free_move from move to legal = record {
    leaves = legal.leaves;
    enters = legal.enters.passable;
    corners = λ diagonal. ((legal.corners diagonal).0.passable, (legal.corners diagonal).1.passable);
  }

  pub live_move : (from : Cell) (move : Move) (to : Cell) → IsLegal baked from move to → IsFree live from move to → IsLegal live from move to
  live_move from move to legal free = legal_in_part baked live part from move to legal free.leaves free.enters free.corners

  pub moves_are_free : (from : Cell) (move : Move) (to : Cell) → IsLegal live from move to ↔ (IsLegal baked from move to × IsFree live from move to)
  moves_are_free from move to = (
    λ legal. (legal_of_part baked live part from move to legal, free_move from move to legal),
    λ both. live_move from move to both.0 both.1,
  )

  free_path : (from : Cell) (moves : List Move) (to : Cell) → Leads live from moves to → IsFreeAlong live from moves
  free_path from [] to path = path.0
  free_path from (move ∷ moves) to path =
      (path.0, path.1.target, free_move from move path.0 path.1, free_path path.0 moves to path.2)

  live_path : (from : Cell) (moves : List Move) (to : Cell) → Leads baked from moves to → IsFreeAlong live from moves → Leads live from moves to
  live_path from [] to path free = (free, path.1)
  live_path from (move ∷ moves) to path free =
      let same = same_target from move free.0 path.0 free.1 path.1.target in
      let step = subst (λ c. IsFree live from move c) same free.2 in
      let rest = subst (λ c. IsFreeAlong live c moves) same free.3 in
      (path.0, live_move from move path.0 path.1 step, live_path path.0 moves to path.2 rest)

  pub paths_are_free : (from : Cell) (moves : List Move) (to : Cell) → Leads live from moves to ↔ (Leads baked from moves to × IsFreeAlong live from moves)
  paths_are_free from moves to = (
    λ path. (leads_of_part baked live part from moves to path, free_path from moves to path),
    λ both. live_path from moves to both.0 both.1,
  )

  -- a best path of the baked map that is free is best
  pub free_best : (from : Cell) (moves : List Move) (to : Cell) → IsBest baked from moves to → Leads live from moves to → IsBest live from moves to
  free_best from moves to best path = record {
    leads = path;
    least = λ others other. best.least others (leads_of_part baked live part from others to other);
  }

  pub cost_is_bound : (from to : Cell) (bound cost : Cost) → IsLeastCost baked from to (Some bound) → IsLeastCost live from to (Some cost) → IsAtMost bound cost
  cost_is_bound from to bound cost least now =
      subst (λ c. IsAtMost bound c) now.2 (subst (λ b. IsAtMost b (cost_of now.0)) least.2
      (least.1.least now.0 (leads_of_part baked live part from now.0 to now.1.leads)))

  pub joins_are_baked : (from to : Cell) → Reaches live from to → Reaches baked from to
  joins_are_baked from to reach = (reach.0, leads_of_part baked live part from reach.0 to reach.1)

-- the walk of a version that is free is best
pub free_walk : (version : Versioned) (live : Map) → IsLive version.map live → (start goal : Cell) (moves : List Move)
    → IsWalk version.map version.comps start goal moves → Leads live start moves goal → IsBest live start moves goal
free_walk version live is start goal moves walk path = free_best version.map live is start moves goal walk.best path
