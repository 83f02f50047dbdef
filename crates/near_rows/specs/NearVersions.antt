-- A version with the near rows of all its components.
use Rattle.std.specs.Prelude.{◌≡◌, ℕ, ◌<◌, ◌≤◌, List, [], length, slice_index_or, sum_by, All, Any, Contains, Option, MatchOption}
use Rattle.moves.specs.declared.Cell.{Cell}
use Rattle.moves.specs.Maps.{Map, IsPassable}
use Rattle.row_store.specs.Comps.{Comp, IsPlaceOf}
use Rattle.versions.specs.Databases.{Versioned, IsVersion, comp_at, runs_of}
use Rattle.near_rows.specs.NearRows.{Nearby, AreNear, runs_in}

-- what is near in the component with that number
abbrev pub nearby_at : List Nearby → ℕ → Nearby
nearby_at nearby label = slice_index_or nearby label (record { radii = []; rows = [] })

-- a version with what is near in each of its components, in their order
pub record NearVersioned : Type 0 where
  pub version : Versioned
  pub nearby : List Nearby

-- the version of a map, with the near radius and the near row of each cell of each component
pub record IsNearVersion (near : NearVersioned) : Type 0 where
  pub is : IsVersion near.version
  pub whole : length near.nearby ≡ length near.version.comps
  pub each : (label : ℕ) → label < length near.version.comps
      → AreNear near.version.map (comp_at near.version.comps label).cells (nearby_at near.nearby label)

-- what is near in each of some components of a map, in their order
pub record AreNearIn (map : Map) (comps : List Comp) (nearby : List Nearby) : Type 0 where
  pub whole : length nearby ≡ length comps
  pub each : (label : ℕ) → label < length comps → AreNear map (comp_at comps label).cells (nearby_at nearby label)

-- the component with that number has both cells
pub record IsHomeLabel (near : NearVersioned) (start goal : Cell) (label : ℕ) : Type 0 where
  pub within : label < length near.version.comps
  pub leaves : Contains (comp_at near.version.comps label).cells start
  pub arrives : Contains (comp_at near.version.comps label).cells goal

-- how many runs all near rows have
abbrev pub near_runs_of : List Nearby → ℕ
near_runs_of nearby = sum_by runs_in nearby

-- the near radius of a cell of some component
pub record IsRadiusOf (near : NearVersioned) (cell : Cell) (radius : ℕ) : Type 0 where
  pub label : ℕ
  pub within : label < length near.version.comps
  pub place : ℕ
  pub there : IsPlaceOf (comp_at near.version.comps label).cells cell place
  pub is : radius ≡ slice_index_or (nearby_at near.nearby label).radii place 0

-- the radius that is found for a cell: none exactly where it is outside or blocked
abbrev pub IsFoundRadius : NearVersioned → Cell → Option ℕ → Type 0
IsFoundRadius near cell found = MatchOption found (IsPassable near.version.map cell → ⊥) (IsRadiusOf near cell)

-- the greatest near radius of all cells, 0 where there are none
pub record IsWidest (nearby : List Nearby) (radius : ℕ) : Type 0 where
  pub most : All (λ near. All (λ other. other ≤ radius) near.radii) nearby
  pub attained : 0 < radius → Any (λ near. Contains near.radii radius) nearby

-- what a near version keeps beside the version and what is near, so that it need not be found anew
pub record IsKept (near : NearVersioned) (runs widest : ℕ) : Type 0 where
  pub is : IsNearVersion near
  pub all : runs ≡ near_runs_of near.nearby
  pub greatest : IsWidest near.nearby widest

-- a version has one near version
abbrev pub NearVersionsAreDetermined : Type 0
NearVersionsAreDetermined =
    (a b : NearVersioned) → IsNearVersion a → IsNearVersion b → a.version ≡ b.version → a ≡ b

-- all near rows together have at most as many runs as the rows of the version
abbrev pub NearRunsAreAtMostTheVersions : Type 0
NearRunsAreAtMostTheVersions =
    (near : NearVersioned) → IsNearVersion near → near_runs_of near.nearby ≤ runs_of near.version.comps
