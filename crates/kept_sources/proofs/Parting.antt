-- Moves and paths of a map and of a part of it.
use Rattle.std.proofs.Common.{IsTrue, List, [], ◌∷◌, inl, inr, subst}
use Rattle.moves.specs.declared.Cell.{Cell}
use Rattle.moves.specs.declared.Move.{Move}
use Rattle.moves.specs.Maps.{Map, IsPassable}
use Rattle.moves.specs.Moves.{is_diagonal, opposite, corner, IsLegal}
use Rattle.moves.specs.Paths.{Leads}
use Rattle.moves.specs.FirstSets.{IsFirstMove}
use Rattle.moves.proofs.LawsOfPaths.{leads_to}
use Rattle.moves.proofs.MoveLaws.{legal_near, legal_back, opposite-opposite}
use Rattle.moves.proofs.BestPaths.{passable_or_not}
use Rattle.kept_sources.specs.Parts.{IsPart, IsTakenOut, HaveSameFirst}

no_first : (map : Map) (from to : Cell) → (IsPassable map to → ⊥) → (move : Move) → IsFirstMove map from to move → ⊥
no_first map from to blocked move begun = elim begun [
  | inl here ↦ blocked (subst (IsPassable map) here.0 here.1)
  | inr (moves, best) ↦ blocked (leads_to map from to (move ∷ moves) best.leads)
]

module _ (map part : Map) (is_part : IsPart map part) where
  -- a legal move of the part is one of the map
  pub legal_of_part : (from : Cell) (move : Move) (to : Cell) → IsLegal part from move to → IsLegal map from move to
  legal_of_part from move to legal =
      legal_near part map from move to (λ c near like. (is_part.alike from c legal.leaves like.passable).1 like) legal

  -- and so is a path
  pub leads_of_part : (from : Cell) (moves : List Move) (to : Cell) → Leads part from moves to → Leads map from moves to
  leads_of_part from [] to path = (is_part.passable from path.0, path.1)
  leads_of_part from (move ∷ moves) to path =
      (path.0, legal_of_part from move path.0 path.1, leads_of_part path.0 moves to path.2)

  -- a cell that is not taken out stays passable
  pub stays : (cell : Cell) → IsPassable map cell → (IsTakenOut map part cell → ⊥) → IsPassable part cell
  stays cell free left = elim (passable_or_not part cell) [
    | inl here ↦ here
    | inr gone ↦ absurd (left (record { was = free; gone = gone }))
  ]

  -- no first move leads to a cell that is not passable
  pub none_first : (from to : Cell) → (IsPassable map to → ⊥) → HaveSameFirst map part from to
  none_first from to blocked move = (
    λ begun. absurd (no_first map from to blocked move begun),
    λ begun. absurd (no_first part from to (λ free. blocked (is_part.passable to free)) move begun),
  )

  -- a legal move of the map whose ends and corners are in the part is legal there
  pub legal_in_part : (from : Cell) (move : Move) (to : Cell) → IsLegal map from move to → IsPassable part from → IsPassable part to
      → (IsTrue (is_diagonal move) → IsPassable part (corner from to) × IsPassable part (corner to from)) → IsLegal part from move to
  legal_in_part from move to legal leaves enters corners = record {
    target = legal.target;
    leaves = leaves;
    enters = (is_part.alike from to leaves enters).0 legal.enters;
    corners = λ d. (
      (is_part.alike from (corner from to) leaves (corners d).0).0 (legal.corners d).0,
      (is_part.alike from (corner to from) leaves (corners d).1).0 (legal.corners d).1,
    );
  }

  -- a move is legal in the part where the way back is
  pub legal_if_back : (from : Cell) (move : Move) (to : Cell) → IsLegal part to (opposite move) from → IsLegal part from move to
  legal_if_back from move to back =
      subst (λ m. IsLegal part from m to) (opposite-opposite move) (legal_back part to (opposite move) from back)
