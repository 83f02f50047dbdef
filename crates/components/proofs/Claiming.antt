-- A straight move leads to a cell of the same class that has no label yet.
use Rattle.std.proofs.Common.{◌≡◌, ℕ, IsFalse, refl, ◌∙◌, inr}
use Rattle.moves.specs.declared.Cell.{Cell}
use Rattle.moves.specs.declared.Move.{Move}
use Rattle.moves.specs.declared.Terrain.{Terrain}
use Rattle.moves.specs.Maps.{Map, IsInside, IsPassable, IsLike, terrain_of}
use Rattle.moves.specs.Moves.{is_diagonal, IsTarget}
use Rattle.moves.proofs.StraightPaths.{straight_is_legal}
use Rattle.components.specs.Marks.{Marks, with_mark}
use Rattle.components.specs.Floods.{IsFresh, IsFreshOf, Claimed}
use Rattle.components.proofs.Alike.{like_by_terrain}

module _ (map : Map) (label : ℕ) (from : Cell) (by : Move) (s : Marks) (to : Cell) (target : IsTarget from by to)
    (class : Terrain) (is : class ≡ terrain_of map from) (free : IsPassable map from)
    (inside : IsInside map to) (fresh : IsFreshOf map class s to) where
  is_like : IsLike map from to
  is_like = like_by_terrain map from to free inside (fresh.terrain ∙ is)

  pub is_fresh : IsFresh map s to
  is_fresh = record { passable = is_like.passable; unlabelled = fresh.unlabelled }

  pub claimed_fresh : IsFalse (is_diagonal by) → Claimed map label from by s (with_mark map.width s to label)
  claimed_fresh straight = inr (to, straight_is_legal map from by to straight target free is_like, is_fresh, refl)
