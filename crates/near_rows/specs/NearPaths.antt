-- The path that a near version spells: the compass move in the square, and else the move that the near row keeps.
use Rattle.std.specs.Prelude.{◌≡◌, ◌≢◌, ◌⊎◌, ℕ, ◌+◌, ◌*◌, ◌^◌, ◌<◌, ◌≤◌, List, [], ◌∷◌, length, slice_index, Contains}
use Rattle.moves.specs.declared.Cell.{Cell}
use Rattle.moves.specs.declared.Move.{Move}
use Rattle.moves.specs.Moves.{number_of, IsTarget}
use Rattle.moves.specs.Paths.{Reaches, IsBest}
use Rattle.run_pack.specs.Runs.{IsCoveringMove, IsFound}
use Rattle.row_store.specs.Rows.{row_at}
use Rattle.row_store.specs.Comps.{IsPlaceOf}
use Rattle.versions.specs.Databases.{comp_at}
use Rattle.versions.specs.declared.version.Next.{Next}
use Rattle.versions.specs.declared.version.Next.TheVariants.{Arrived, Unreachable, Go}
use Rattle.near_rows.specs.Compass.{IsCompass, IsInSquare}
use Rattle.near_rows.specs.NearRows.{Nearby}
use Rattle.near_rows.specs.NearVersions.{NearVersioned, IsNearVersion, nearby_at}

-- the near move by a radius and a row: the compass move where the goal is in the square of the radius, and else the move
-- of the run that covers the place of the goal
abbrev pub IsNearMoveBy : List Cell → Nearby → Cell → ℕ → Cell → ℕ → Move → Type 0
IsNearMoveBy cells nearby from source goal column move =
    (IsInSquare from (slice_index nearby.radii source) goal × IsCompass from move goal)
    ⊎ ((IsInSquare from (slice_index nearby.radii source) goal → ⊥)
    × IsCoveringMove (row_at nearby.rows source) (length cells) column (number_of move))

-- what is looked up by the places of two cells: the compass move where the goal is in the square, and else what is found in
-- the near row
abbrev pub IsLookedUp : Nearby → Cell → ℕ → Cell → ℕ → Move → Type 0
IsLookedUp nearby from source goal column move =
    (IsInSquare from (slice_index nearby.radii source) goal × IsCompass from move goal)
    ⊎ ((IsInSquare from (slice_index nearby.radii source) goal → ⊥) × IsFound (row_at nearby.rows source) column (number_of move))

-- the near move from one of the cells to another
pub record IsNearMove (cells : List Cell) (nearby : Nearby) (from goal : Cell) (move : Move) : Type 0 where
  pub source : ℕ
  pub column : ℕ
  pub leaves : IsPlaceOf cells from source
  pub arrives : IsPlaceOf cells goal column
  pub is : IsNearMoveBy cells nearby from source goal column move

-- These moves are spelled: none where the cell is the goal, and else the near move to the goal, and then those that are
-- spelled from where it leads. It is not said that there are such moves, or that they are a path.
abbrev pub SpellsNear : List Cell → Nearby → Cell → List Move → Cell → Type 0
SpellsNear cells nearby from [] goal = from ≡ goal
SpellsNear cells nearby from (move ∷ moves) goal =
    (from ≢ goal) × IsNearMove cells nearby from goal move × (next : Cell) × IsTarget from move next
    × SpellsNear cells nearby next moves goal

-- these moves are spelled from the start to the goal, in the component that has both
pub record IsSpelledNear (near : NearVersioned) (start goal : Cell) (moves : List Move) : Type 0 where
  pub label : ℕ
  pub within : label < length near.version.comps
  pub leaves : Contains (comp_at near.version.comps label).cells start
  pub arrives : Contains (comp_at near.version.comps label).cells goal
  pub spelled : SpellsNear (comp_at near.version.comps label).cells (nearby_at near.nearby label) start moves goal

-- the near walk from the start to the goal: the one list of moves that is spelled. It is a best path of the whole map, and
-- has fewer moves than some component has cells.
pub record IsNearWalk (near : NearVersioned) (start goal : Cell) (moves : List Move) : Type 0 where
  pub spelled : IsSpelledNear near start goal moves
  pub best : IsBest near.version.map start moves goal
  pub short : length moves < length (comp_at near.version.comps spelled.label).cells
  pub only : (others : List Move) → IsSpelledNear near start goal others → others ≡ moves

-- near walks are best: where a path exists, the near version of the map spells one
abbrev pub NearWalksAreBest : Type 0
NearWalksAreBest =
    (near : NearVersioned) → IsNearVersion near → (start goal : Cell) → Reaches near.version.map start goal
    → (moves : List Move) × IsNearWalk near start goal moves

-- where a path goes on from a passable cell to a passable goal: it has arrived where the two are one, no path exists, or the
-- move is the first of the near walk
abbrev pub IsNearNext : NearVersioned → Cell → Cell → Next → Type 0
IsNearNext near at goal Arrived = at ≡ goal
IsNearNext near at goal Unreachable = Reaches near.version.map at goal → ⊥
IsNearNext near at goal (Go move) = (rest : List Move) × IsNearWalk near at goal (move ∷ rest)

-- so few probes of the near row of a cell: none where the goal is in the square, and else s of a row of n runs, where
-- 2^s ≤ 2n + 1
pub record HasFewNearProbes (cells : List Cell) (nearby : Nearby) (at goal : Cell) (probes : ℕ) : Type 0 where
  pub place : ℕ
  pub there : IsPlaceOf cells at place
  pub none : IsInSquare at (slice_index nearby.radii place) goal → probes ≡ 0
  pub few : 2 ^ probes ≤ 2 * length (row_at nearby.rows place) + 1

-- what it takes to tell where a path goes on: no probe where it has arrived or no path exists, and else few probes of the
-- near row of the cell where it stands, in the component that has both cells
abbrev pub TakesFewNearProbes : NearVersioned → Cell → Cell → Next → ℕ → Type 0
TakesFewNearProbes near at goal Arrived probes = probes ≡ 0
TakesFewNearProbes near at goal Unreachable probes = probes ≡ 0
TakesFewNearProbes near at goal (Go move) probes =
    (label : ℕ) × (label < length near.version.comps) × Contains (comp_at near.version.comps label).cells goal
    × HasFewNearProbes (comp_at near.version.comps label).cells (nearby_at near.nearby label) at goal probes
