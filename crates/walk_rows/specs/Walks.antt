-- The walk between two cells of a map, from the rows of the cells on it.
use Rattle.std.specs.Prelude.{◌≡◌, ℕ, ◌+◌, ◌<◌, ◌++◌, true, List, length, codes, slice_index, Option, MatchOption, Vec, Contains}
use Rattle.std.specs.Global.{Global}
use Rattle.moves.specs.declared.Cell.{Cell}
use Rattle.moves.specs.declared.Move.{Move}
use Rattle.moves.specs.Maps.{Map}
use Rattle.moves.specs.Moves.{IsLegal}
use Rattle.moves.specs.Paths.{Reaches}
use Rattle.moves.specs.Components.{IsComponent}
use Rattle.cell_order.specs.declared.OrderKind.{OrderKind}
use Rattle.cell_order.specs.Orders.{ordered}
use Rattle.grid_search.specs.Keys.{key_at, move_key}
use Rattle.run_pack.specs.declared.Run.{Run}
use Rattle.row_store.specs.Rows.{AreRows}
use Rattle.row_store.specs.Comps.{Comp, IsPlaceOf}
use Rattle.versions.specs.Spelled.{IsKept, Spells}
use Rattle.versions.specs.Databases.{IsDatabase}
use Rattle.versions.specs.Queries.{IsRefusal, refusal_text}
use Rattle.versions.specs.Answers.{IsWalk}
use Rattle.build_pool.specs.Places.{AreComponent, AreSources}
use Rattle.build_pool.specs.Pieces.{ArePackedOver, AreWordsOver}
use Rattle.lane_rows.specs.Tiles.{Tile}
use Rattle.walk_rows.specs.declared.along.Route.{Route}
use Rattle.walk_rows.specs.declared.bench.Workbench.{Workbench}
use Rattle.walk_rows.specs.declared.WalkError.{WalkError}
use Rattle.walk_rows.specs.declared.WalkError.TheVariants.{Refused, NoMemory}

-- why there is no walk, in words
abbrev pub error_text : WalkError → List ℕ
error_text (Refused why) = refusal_text why
error_text NoMemory = codes "out of memory"

-- the walk that the database of the map in that order spells between two cells, and none where no path exists
abbrev pub IsWalkOf : Map → OrderKind → Cell → Cell → Option (Vec Move Global) → Type 0
IsWalkOf map order start goal found =
    (comps : List Comp) → IsDatabase map order comps
    → MatchOption found (Reaches map start goal → ⊥) (λ moves. IsWalk map comps start goal moves.items)

-- the cause of each error; want of memory alone is free
abbrev pub IsWalkCause : Map → Cell → Cell → WalkError → Type 0
IsWalkCause map start goal (Refused why) = IsRefusal map start goal why
IsWalkCause map start goal NoMemory = Unit {0}

-- the cells of the component that has the goal, as the map's database in that order has them
pub record IsHome (map : Map) (route : Route) (cells : List Cell) : Type 0 where
  pub component : List Cell
  pub is : IsComponent map component
  pub arrives : Contains component route.goal
  pub kept : cells ≡ ordered route.order component

-- cells in some order that are a component of the map, and whose rows can be built
pub record CanBeWalked (map : Map) (cells : List Cell) : Type 0 where
  pub sources : AreSources cells
  pub component : AreComponent map cells

-- these moves are spelled by the rows of the cells, of which there is one list
abbrev pub SpellsOver : List Cell → Cell → List Move → Cell → Type 0
SpellsOver cells start moves goal = (rows : List (List Run)) → AreRows cells rows → Spells cells rows start moves goal

-- the move is kept for the goal in the row of a cell
abbrev pub IsKeptOver : List Cell → Cell → Cell → Move → Type 0
IsKeptOver cells from goal move = (rows : List (List Run)) → AreRows cells rows → IsKept cells rows from goal move

-- these moves are spelled by the rows of the component that has the goal
abbrev pub SpellsIn : Map → Route → List Move → Type 0
SpellsIn map route moves = (cells : List Cell) → IsHome map route cells → SpellsOver cells route.start moves route.goal

-- The moves so far lead to a cell from which a path goes on to the goal, and with those that are spelled from there they
-- are spelled from the start.
pub record IsUnderWay (map : Map) (route : Route) (at : Cell) (moves : List Move) : Type 0 where
  pub leaves : Reaches map route.start route.goal
  pub ahead : Reaches map at route.goal
  pub goes_on : (cells : List Cell) → IsHome map route cells → (rows : List (List Run)) → AreRows cells rows
      → (rest : List Move) → Spells cells rows at rest route.goal → Spells cells rows route.start (moves ++ rest) route.goal

-- a move comes down a legal step where the cell at its end has a key that is less by just this step
pub record ComesDown (map : Map) (keys : List ℕ) (from : Cell) (move : Move) : Type 0 where
  pub next : Cell
  pub legal : IsLegal map from move next
  pub down : key_at map.width keys next + move_key move ≡ key_at map.width keys from

-- the move alone may come down from the cell
abbrev pub IsAlone : Map → List ℕ → Cell → Move → Type 0
IsAlone map keys from move = (other : Move) → ComesDown map keys from other → other ≡ move

-- the words of the row from that cell
pub record AreWordsFrom (cells : List Cell) (from : Cell) (words : List ℕ) : Type 0 where
  pub place : ℕ
  pub at : IsPlaceOf cells from place
  pub are : AreWordsOver cells place words

-- in each lane of the tile stand the words of the row of one of the cells
pub record HasRowsOf (cells : List Cell) (tile : Tile) : Type 0 where
  pub sources : (lane : ℕ) → lane < 16 → slice_index tile.sources lane < length cells
  pub packed : ArePackedOver cells tile

-- a bench for these cells, whose tile has rows of theirs where it says so
pub record IsReady (cells : List Cell) (bench : Workbench) : Type 0 where
  pub count : bench.tiles.count ≡ length cells
  pub marks : length bench.wanted.items ≡ length cells
  pub rows : bench.has_rows ≡ true → HasRowsOf cells bench.tiles
