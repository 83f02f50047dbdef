-- Near rows of a component while they are built, in whatever order they are found.
use Rattle.std.specs.Prelude.{◌≡◌, ◌⊎◌, ℕ, ◌<◌, ◌≤◌, List, [], length, All, AllPairs, slice_set}
use Rattle.run_pack.specs.declared.Run.{Run}
use Rattle.run_pack.specs.Runs.{IsPacked}
use Rattle.moves.specs.declared.Cell.{Cell}
use Rattle.moves.specs.declared.Move.{Move}
use Rattle.moves.specs.declared.TheConstants.{MAX_PASSABLE}
use Rattle.moves.specs.Maps.{Map, IsSearchable}
use Rattle.moves.specs.MoveSets.{Has}
use Rattle.moves.specs.Rectangles.{IsOnMap}
use Rattle.moves.specs.ComponentLaws.{HasJust}
use Rattle.row_store.specs.Rows.{row_at}
use Rattle.build_pool.specs.Places.{AreComponent}
use Rattle.near_rows.specs.Compass.{IsCompass, IsInSquare}
use Rattle.near_rows.specs.NearRows.{Nearby, IsNearAt}

-- the cells are those of a component of a map that may be searched, each once, and there is a map that has just them
pub record IsGround (map : Map) (cells : List Cell) : Type 0 where
  pub part : AreComponent map cells
  pub alone : Map
  pub just : HasJust alone cells
  pub searchable : IsSearchable map
  pub few : length cells ≤ MAX_PASSABLE
  pub on_map : All IsOnMap cells
  pub once : AllPairs (λ a b. a ≡ b → ⊥) cells

-- the set has not the compass move between two cells
pub record IsAstray (from to : Cell) (set : ℕ) : Type 0 where
  pub move : Move
  pub compass : IsCompass from move to
  pub missing : Has set move → ⊥

-- the set has the compass move between two cells, where they are two
abbrev pub IsRight : Cell → Cell → ℕ → Type 0
IsRight from to set = (move : Move) → IsCompass from move to → Has set move

-- the lesser of a distance, and that of a cell whose set has not the compass move
pub record IsNearer (least : ℕ) (source cell : Cell) (set nearest : ℕ) : Type 0 where
  pub most : nearest ≤ least
  pub right : (radius : ℕ) → radius < nearest → IsInSquare source radius cell → IsRight source cell set
  pub met : (nearest ≡ least) ⊎ (IsInSquare source nearest cell × IsAstray source cell set)

-- all moves where the cell is in the square, and else the set
pub record IsWidenedSet (source : Cell) (radius : ℕ) (cell : Cell) (set widened : ℕ) : Type 0 where
  pub inside : IsInSquare source radius cell → widened ≡ 255
  pub outside : (IsInSquare source radius cell → ⊥) → widened ≡ set

-- at each place the row is blank, or radius and row are those of the cell there
pub record ArePartly (map : Map) (cells : List Cell) (nearby : Nearby) : Type 0 where
  pub radii : length nearby.radii ≡ length cells
  pub rows : length nearby.rows ≡ length cells
  pub each : (place : ℕ) → place < length cells → (row_at nearby.rows place ≡ []) ⊎ IsNearAt map cells nearby place

-- and those before a place are built
pub record AreDone (map : Map) (cells : List Cell) (upto : ℕ) (nearby : Nearby) : Type 0 where
  pub part : ArePartly map cells nearby
  pub done : (place : ℕ) → place < upto → IsNearAt map cells nearby place

-- the radius and the packed row of these sets are put at that place, and the others are as before
pub record PutsNear (old new : Nearby) (place radius : ℕ) (sets : List ℕ) : Type 0 where
  pub row : List Run
  pub packed : IsPacked row sets
  pub radii : new.radii ≡ slice_set old.radii place radius
  pub rows : new.rows ≡ slice_set old.rows place row

-- some row is blank
pub record HasBlank (rows : List (List Run)) : Type 0 where
  pub place : ℕ
  pub there : place < length rows
  pub blank : row_at rows place ≡ []
