-- Near walks under way, and the moves that are ahead of them.
use Rattle.std.specs.Prelude.{◌≡◌, ℕ, ◌<◌, List, [], ◌∷◌, length, Option, MatchOption}
use Rattle.root_cost.specs.declared.Cost.{Cost}
use Rattle.moves.specs.declared.Cell.{Cell}
use Rattle.moves.specs.declared.Move.{Move}
use Rattle.moves.specs.declared.TheConstants.{MAX_PASSABLE}
use Rattle.moves.specs.Maps.{Map}
use Rattle.moves.specs.Paths.{Reaches, cost_of}
use Rattle.row_store.specs.Comps.{Comp, IsComp, IsPlaceOf}
use Rattle.near_rows.specs.NearRows.{Nearby, AreNear}
use Rattle.near_rows.specs.NearVersions.{NearVersioned}
use Rattle.near_rows.specs.NearPaths.{SpellsNear, IsNearWalk}
use Rattle.build_pool.specs.Places.{AreComponent}

-- a near walk as its callers see it: a component, what is near in it, the cell that was reached, and the goal
pub record NearWalking : Type 0 where
  pub comp : Comp
  pub nearby : Nearby
  pub at : Cell
  pub goal : Cell

-- what a near walk keeps: the cell that was reached and the goal, and their places
pub record IsUnderWay (comp : Comp) (nearby : Nearby) (at goal : Cell) (place column : ℕ) : Type 0 where
  pub whole : IsComp comp
  pub map : Map
  pub part : AreComponent map comp.cells
  pub near : AreNear map comp.cells nearby
  pub here : IsPlaceOf comp.cells at place
  pub there : IsPlaceOf comp.cells goal column

-- the moves that are ahead: those that are spelled from the cell that was reached to the goal
abbrev pub IsAhead : NearWalking → List Move → Type 0
IsAhead walk moves = SpellsNear walk.comp.cells walk.nearby walk.at moves walk.goal

-- the walk stands at the start, and the moves ahead of it are the near walk of the version from there to the goal
pub record BeginsNearWalk (near : NearVersioned) (start goal : Cell) (walk : NearWalking) : Type 0 where
  pub from : walk.at ≡ start
  pub to : walk.goal ≡ goal
  pub moves : List Move
  pub is : IsNearWalk near start goal moves
  pub ahead : IsAhead walk moves
  pub few : length moves < MAX_PASSABLE

-- no walk begins where no path exists, and else one that stands at the start
abbrev pub IsBegun : NearVersioned → Cell → Cell → Option NearWalking → Type 0
IsBegun near start goal found = MatchOption found (Reaches near.version.map start goal → ⊥) (BeginsNearWalk near start goal)

-- a step takes the first of the moves that are ahead, and none exactly where none is
pub record Advances (old new : NearWalking) (step : Option Move) : Type 0 where
  pub same : new.goal ≡ old.goal
  pub ahead : (moves : List Move) → IsAhead old moves
      → MatchOption step ((moves ≡ []) × (new ≡ old)) (λ move. (rest : List Move) × (moves ≡ move ∷ rest) × IsAhead new rest)

-- fewer moves are ahead than a map may have passable cells
abbrev pub HasFewAhead : NearWalking → Type 0
HasFewAhead walk = (moves : List Move) × IsAhead walk moves × (length moves < MAX_PASSABLE)

-- this is what the moves cost that are ahead
abbrev pub CostsAhead : NearWalking → Cost → Type 0
CostsAhead walk cost = (moves : List Move) → IsAhead walk moves → cost ≡ cost_of moves
