-- What a version answers to a query for a path, as cases tried in order.
use Rattle.std.specs.Prelude.{◌≡◌, ℕ, ◌+◌, ◌*◌, ◌^◌, ◌<◌, ◌≤◌, List, ◌∷◌, length, Contains}
use Rattle.moves.specs.declared.Cell.{Cell}
use Rattle.moves.specs.declared.Move.{Move}
use Rattle.moves.specs.Maps.{Map}
use Rattle.moves.specs.Paths.{Reaches, IsBest}
use Rattle.cell_order.specs.declared.OrderKind.{OrderKind}
use Rattle.versions.specs.Spelled.{Spells}
use Rattle.row_store.specs.Rows.{row_at}
use Rattle.row_store.specs.Comps.{Comp, IsPlaceOf}
use Rattle.versions.specs.declared.version.Next.{Next}
use Rattle.versions.specs.declared.version.Next.TheVariants.{Arrived, Unreachable, Go}
use Rattle.versions.specs.Databases.{Versioned, comp_at, IsDatabase, IsVersion}
use Rattle.versions.specs.Queries.{AreEnds, IsRefusal}
use Rattle.versions.specs.declared.query.QueryRefusal.{QueryRefusal}

-- the rows of the component that has both cells spell these moves from the start to the goal
pub record IsSpelled (comps : List Comp) (start goal : Cell) (moves : List Move) : Type 0 where
  pub label : ℕ
  pub within : label < length comps
  pub leaves : Contains (comp_at comps label).cells start
  pub arrives : Contains (comp_at comps label).cells goal
  pub spelled : Spells (comp_at comps label).cells (comp_at comps label).rows start moves goal

-- The walk from the start to the goal: the only list of moves that is spelled. It is a best path of the whole map, and
-- has fewer moves than some component has cells.
pub record IsWalk (map : Map) (comps : List Comp) (start goal : Cell) (moves : List Move) : Type 0 where
  pub spelled : IsSpelled comps start goal moves
  pub best : IsBest map start moves goal
  pub short : length moves < length (comp_at comps spelled.label).cells
  pub only : (others : List Move) → IsSpelled comps start goal others → others ≡ moves

-- walks are best: if a path exists, the database of the map spells one
abbrev pub WalksAreBest : Type 0
WalksAreBest =
    (map : Map) (order : OrderKind) (comps : List Comp) → IsDatabase map order comps → (start goal : Cell) → Reaches map start goal
    → (moves : List Move) × IsWalk map comps start goal moves

-- the component is one of these and has both cells
pub record IsHome (comps : List Comp) (start goal : Cell) (comp : Comp) : Type 0 where
  pub label : ℕ
  pub within : label < length comps
  pub is : comp_at comps label ≡ comp
  pub leaves : Contains comp.cells start
  pub arrives : Contains comp.cells goal

-- how a path continues from a passable cell to a passable goal: it has arrived if the two are the same, no path exists,
-- or the move is the first of the walk
abbrev pub IsNext : Versioned → Cell → Cell → Next → Type 0
IsNext version at goal Arrived = at ≡ goal
IsNext version at goal Unreachable = Reaches version.map at goal → ⊥
IsNext version at goal (Go move) = (rest : List Move) × IsWalk version.map version.comps at goal (move ∷ rest)

-- an answer to a query for a path: why it is refused, that no path exists, or the moves of a path
pub data Answer : Type 0 where
  refused : QueryRefusal → Answer
  unreachable : Answer
  path : List Move → Answer

-- The answer of a version to a query, as cases tried in order: the start is outside, the start is blocked, the goal is
-- outside, the goal is blocked, no path exists, or the walk. Each version answers each query in exactly one way.
abbrev pub IsAnswer : Versioned → Cell → Cell → Answer → Type 0
IsAnswer version start goal (refused why) = IsRefusal version.map start goal why
IsAnswer version start goal unreachable = AreEnds version.map start goal × (Reaches version.map start goal → ⊥)
IsAnswer version start goal (path moves) =
    AreEnds version.map start goal × IsWalk version.map version.comps start goal moves

-- exactly one answer is right
pub record HasOneAnswer (version : Versioned) (start goal : Cell) : Type 0 where
  pub answer : Answer
  pub is : IsAnswer version start goal answer
  pub only : (other : Answer) → IsAnswer version start goal other → other ≡ answer

-- each query of a version has exactly one answer
abbrev pub QueriesHaveOneAnswer : Type 0
QueriesHaveOneAnswer = (version : Versioned) → IsVersion version → (start goal : Cell) → HasOneAnswer version start goal

-- few probes of the row of a cell: at most s for a row of n runs, where 2^s ≤ 2n + 1
pub record HasFewProbes (comp : Comp) (at : Cell) (probes : ℕ) : Type 0 where
  pub place : ℕ
  pub is : IsPlaceOf comp.cells at place
  pub few : 2 ^ probes ≤ 2 * length (row_at comp.rows place) + 1

-- the probes that tell how a path continues: none if it has arrived or no path exists, otherwise few probes of the row
-- of the current cell, in the component that has both cells
abbrev pub TakesFewProbes : List Comp → Cell → Cell → Next → ℕ → Type 0
TakesFewProbes comps at goal Arrived probes = probes ≡ 0
TakesFewProbes comps at goal Unreachable probes = probes ≡ 0
TakesFewProbes comps at goal (Go move) probes = (comp : Comp) × IsHome comps at goal comp × HasFewProbes comp at probes
