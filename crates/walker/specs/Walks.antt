-- Walks in progress, and the moves ahead of them.
use Rattle.std.specs.Prelude.{◌≡◌, ℕ, ◌<◌, List, [], ◌∷◌, length, Option, MatchOption}
use Rattle.moves.specs.declared.Cell.{Cell}
use Rattle.root_cost.specs.declared.Cost.{Cost}
use Rattle.moves.specs.declared.Move.{Move}
use Rattle.moves.specs.declared.TheConstants.{MAX_PASSABLE}
use Rattle.moves.specs.Paths.{Reaches, cost_of}
use Rattle.row_store.specs.Comps.{Comp, IsComp, IsPlaceOf}
use Rattle.versions.specs.Spelled.{Spells}
use Rattle.versions.specs.Databases.{Versioned}
use Rattle.versions.specs.Answers.{IsWalk}

-- a walk as its callers see it: a component, the current cell, and the goal
pub record Walking : Type 0 where
  pub comp : Comp
  pub at : Cell
  pub goal : Cell

-- what a walk keeps: the places of the current cell and of the goal
pub record IsUnderWay (comp : Comp) (at : Cell) (place goal : ℕ) : Type 0 where
  pub whole : IsComp comp
  pub here : IsPlaceOf comp.cells at place
  pub inside : goal < length comp.cells

-- the moves ahead: those spelled from the current cell to the goal
abbrev pub IsAhead : Walking → List Move → Type 0
IsAhead walk moves = Spells walk.comp.cells walk.comp.rows walk.at moves walk.goal

-- the walk is at the start, and the moves ahead of it are the walk of the version from there to the goal
pub record BeginsWalk (version : Versioned) (start goal : Cell) (walk : Walking) : Type 0 where
  pub from : walk.at ≡ start
  pub to : walk.goal ≡ goal
  pub moves : List Move
  pub is : IsWalk version.map version.comps start goal moves
  pub ahead : IsAhead walk moves
  pub few : length moves < MAX_PASSABLE

-- no walk begins if no path exists, otherwise one that is at the start
abbrev pub IsBegun : Versioned → Cell → Cell → Option Walking → Type 0
IsBegun version start goal found = MatchOption found (Reaches version.map start goal → ⊥) (BeginsWalk version start goal)

-- a step takes the first of the moves ahead, or none if there are none
pub record Advances (old new : Walking) (step : Option Move) : Type 0 where
  pub same : new.goal ≡ old.goal
  pub ahead : (moves : List Move) → IsAhead old moves
      → MatchOption step ((moves ≡ []) × (new ≡ old)) (λ move. (rest : List Move) × (moves ≡ move ∷ rest) × IsAhead new rest)

-- fewer moves are ahead than a map may have passable cells
abbrev pub HasFewAhead : Walking → Type 0
HasFewAhead walk = (moves : List Move) × IsAhead walk moves × (length moves < MAX_PASSABLE)

-- this is the cost of the moves ahead
abbrev pub CostsAhead : Walking → Cost → Type 0
CostsAhead walk cost = (moves : List Move) → IsAhead walk moves → cost ≡ cost_of moves
