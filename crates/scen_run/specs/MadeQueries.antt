-- The queries by which a made map is measured.
use Rattle.std.specs.Prelude.{◌≡◌, ℕ, ◌+◌, ◌*◌, ◌%◌, ◌<◌, ◌==◌, if◌then◌else◌, Bool, true, false, List, length, slice_index_or, sum_by, count_by}
use Rattle.root_cost.specs.declared.Cost.{Cost}
use Rattle.root_cost.specs.Costs.{no_cost}
use Rattle.moves.specs.declared.Cell.{Cell}
use Rattle.moves.specs.Maps.{Map, passable_cells}
use Rattle.moves.specs.Paths.{cost_of}
use Rattle.versions.specs.Databases.{Versioned}
use Rattle.versions.specs.Answers.{Answer, unreachable, path, IsAnswer}
use Rattle.scen_run.specs.declared.queries.TheConstants.{QUERIES, START_FACTOR, GOAL_FACTOR, GOAL_SHIFT}
use Rattle.scen_run.specs.declared.queries.QueryTotals.{QueryTotals}

-- how many queries there are among cells: none where there is no cell
abbrev pub queries_among : List Cell → ℕ
queries_among cells = if length cells == 0 then 0 else QUERIES

-- how many queries there are on a map
abbrev pub queries_on : Map → ℕ
queries_on map = queries_among (passable_cells map)

-- the cell with that number, counted from 0 round and round
abbrev pub numbered_in : List Cell → ℕ → Cell
numbered_in cells number = slice_index_or cells (number % length cells) (record { x = 0; y = 0 })

-- the passable cell with that number, row by row
abbrev pub cell_numbered : Map → ℕ → Cell
cell_numbered map number = numbered_in (passable_cells map) number

-- where the query with that number starts and ends
abbrev pub start_of : Map → ℕ → ℕ → Cell
start_of map seed query = cell_numbered map (START_FACTOR * query + seed)

abbrev pub goal_of : Map → ℕ → Cell
goal_of map query = cell_numbered map (GOAL_FACTOR * query + GOAL_SHIFT)

-- the answers to the queries, in their order
pub record AreQueryAnswers (version : Versioned) (seed : ℕ) (answers : List Answer) : Type 0 where
  pub each : (query : ℕ) → query < length answers
      → IsAnswer version (start_of version.map seed query) (goal_of version.map query) (slice_index_or answers query unreachable)

-- whether an answer has no path, and what its path costs
abbrev pub has_no_path : Answer → Bool
has_no_path (path moves) = false
has_no_path _ = true

abbrev pub cost_in : Answer → Cost
cost_in (path moves) = cost_of moves
cost_in _ = no_cost

-- the totals of answers: how many there are, how many have no path, and the sums of straight and of diagonal moves
pub record AreTotals (answers : List Answer) (totals : QueryTotals) : Type 0 where
  pub queries : totals.queries ≡ length answers
  pub unreachable : totals.unreachable ≡ count_by has_no_path answers
  pub straight : totals.straight ≡ sum_by (λ answer. (cost_in answer).straight) answers
  pub diagonal : totals.diagonal ≡ sum_by (λ answer. (cost_in answer).diagonal) answers

-- the totals of the answers to all queries
pub record AreQueryTotals (version : Versioned) (seed : ℕ) (totals : QueryTotals) : Type 0 where
  pub answers : List Answer
  pub whole : length answers ≡ queries_on version.map
  pub are : AreQueryAnswers version seed answers
  pub sums : AreTotals answers totals
