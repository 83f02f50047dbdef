-- What is to be built of a version, and what is taken over from a former one.
use Rattle.std.specs.Prelude.{◌≡◌, ◌≢◌, ℕ, ◌+◌, ◌<◌, true, false, List, ◌∷◌, length, slice_index_or, Option, None, Some, IfSome}
use Rattle.moves.specs.declared.Cell.{Cell}
use Rattle.moves.specs.Maps.{Map, IsSearchable, passable_count}
use Rattle.moves.specs.Components.{IsComponentList}
use Rattle.cell_order.specs.declared.OrderKind.{OrderKind}
use Rattle.row_store.specs.Comps.{Comp}
use Rattle.build_pool.specs.Places.{CanBeBuilt}
use Rattle.versions.specs.Databases.{Versioned, IsKeptAs, component_at, comp_at}
use Rattle.versions.specs.Counts.{AreCounts, is_among}

-- a plan as its callers see it: the version that is wanted, and how many cells are in the components that are to be built
-- and in those that are kept
pub record Planned : Type 0 where
  pub map : Map
  pub prefix : ℕ
  pub order : OrderKind
  pub built : ℕ
  pub kept : ℕ

-- all is built: there is no former version in the same order
pub record IsAllBuilt (map : Map) (built kept : ℕ) : Type 0 where
  pub built_all : built ≡ passable_count map
  pub kept_none : kept ≡ 0

-- The components of the former version are kept where it has the same order. An example: after `..@..` the map `@.@..` has
-- one cell to be built, and two are kept.
pub record Follows (former : Versioned) (map : Map) (order : OrderKind) (built kept : ℕ) : Type 0 where
  pub same_order : former.order ≡ order → AreCounts former.map map built kept
  pub other_order : former.order ≢ order → IsAllBuilt map built kept

-- a component of a former version with just these cells, if there is one
abbrev pub IsShared : OrderKind → List (List Cell) → List Cell → Option Comp → Type 0
IsShared order former cells None = is_among former cells ≡ false
IsShared order former cells (Some comp) = (is_among former cells ≡ true) × IsKeptAs order cells comp

-- for each component of a map its database, or none where it is yet to be built
pub record ArePrepared (order : OrderKind) (components : List (List Cell)) (comps : List (Option Comp)) : Type 0 where
  pub long : length comps ≡ length components
  pub each : (label : ℕ) → label < length comps → IfSome (slice_index_or comps label None) (IsKeptAs order (component_at components label))

-- for each component of a map its database
pub record AreComplete (order : OrderKind) (components : List (List Cell)) (comps : List Comp) : Type 0 where
  pub long : length comps ≡ length components
  pub each : (label : ℕ) → label < length comps → IsKeptAs order (component_at components label) (comp_at comps label)

-- how many cells the components have whose database is yet to be built
abbrev pub cells_missing : List (List Cell) → List (Option Comp) → ℕ
cells_missing (cells ∷ components) (None ∷ comps) = length cells + cells_missing components comps
cells_missing (cells ∷ components) (Some comp ∷ comps) = cells_missing components comps
cells_missing _ _ = 0

-- what a plan knows
pub record IsPlan (map : Map) (order : OrderKind) (components : List (List Cell)) (comps : List (Option Comp))
    (built kept : ℕ) : Type 0 where
  pub searchable : IsSearchable map
  pub listed : IsComponentList map components
  pub prepared : ArePrepared order components comps
  pub missing : built ≡ cells_missing components comps
  pub sum : built + kept ≡ passable_count map

-- the cells of each component have all that it takes to build their rows
abbrev pub CanAllBeBuilt : List (List Cell) → Type 0
CanAllBeBuilt components = (label : ℕ) → label < length components → CanBeBuilt (component_at components label)
