-- What is wrong with rows, target by target: a source from which no walk leads to the target, one from which a move and
-- a walk are better than its walk, or one whose row could be kept in fewer runs, or with lesser moves. (Strasser,
-- Harabor and Botea 2014: of a row's encodings by optimal first moves the one with the fewest runs.)
--
-- The cells of `...`, by the rows of the three sources:
--   (0,E) | (0,W),(2,E) | (0,W)            nothing is wrong
--   (0,E) | (0,W),(2,E) | (0,E)            target 0 has no walk from source 2
--   (0,E) | (0,W),(1,W),(2,E) | (0,W)      at target 1 the row of source 1 is loose, since its first run could go on there
use Rattle.std.specs.Prelude.{◌≡◌, ℕ, ◌+◌, ◌<◌, ◌⊎◌, ◌↔◌, List, ◌∷◌, length, slice_index, All}
use Rattle.root_cost.specs.Costs.{IsAtMost}
use Rattle.run_pack.specs.declared.Run.{Run}
use Rattle.run_pack.specs.Runs.{start_at, move_at}
use Rattle.run_pack.specs.Sets.{IsCommon, IsLeastCommon}
use Rattle.moves.specs.declared.Cell.{Cell}
use Rattle.moves.specs.declared.Move.{Move}
use Rattle.moves.specs.Maps.{Map}
use Rattle.moves.specs.Moves.{IsLegal}
use Rattle.moves.specs.MoveSets.{Has}
use Rattle.moves.specs.Paths.{cost_of}
use Rattle.moves.specs.ComponentLaws.{HasJust}
use Rattle.moves.specs.FirstSetLists.{cell_of}
use Rattle.row_store.specs.Rows.{row_at, AreRows}
use Rattle.row_check.specs.declared.RowFault.{RowFault}
use Rattle.row_check.specs.declared.RowFault.TheVariants.{Walk, Worse, Loose}
use Rattle.row_check.specs.Walks.{IsWalkOf, HasWalk, HasNoWalk}

-- a legal move from the source, followed by the walk from where it leads, costs less than the walk of the source
pub record IsWorse (map : Map) (cells : List Cell) (rows : List (List Run)) (target source : ℕ) : Type 0 where
  pub walk : List Move
  pub walks : IsWalkOf map cells rows source target walk
  pub move : Move
  pub next : ℕ
  pub within : next < length cells
  pub legal : IsLegal map (cell_of cells source) move (cell_of cells next)
  pub rest : List Move
  pub goes : IsWalkOf map cells rows next target rest
  pub less : IsAtMost (cost_of walk) (cost_of (move ∷ rest)) → ⊥

-- the move is legal, and followed by the walk from where it leads it costs just what the walk of the source costs
pub record AttainsWalk (map : Map) (cells : List Cell) (rows : List (List Run)) (target source : ℕ) (move : Move) : Type 0 where
  pub walk : List Move
  pub walks : IsWalkOf map cells rows source target walk
  pub next : ℕ
  pub within : next < length cells
  pub legal : IsLegal map (cell_of cells source) move (cell_of cells next)
  pub rest : List Move
  pub goes : IsWalkOf map cells rows next target rest
  pub same : cost_of (move ∷ rest) ≡ cost_of walk

-- a move that is as good as the walk: each where source and target are one cell, and else those that attain what it
-- costs
abbrev pub IsEqualMove : Map → List Cell → List (List Run) → ℕ → ℕ → Move → Type 0
IsEqualMove map cells rows target source move =
    (cell_of cells source ≡ cell_of cells target) ⊎ AttainsWalk map cells rows target source move

-- one byte for each cell; for the places before `upto`, the moves from the source that are as good as its walk
pub record AreWalkSets (map : Map) (cells : List Cell) (rows : List (List Run)) (source upto : ℕ) (sets : List ℕ) : Type 0 where
  pub whole : length sets ≡ length cells
  pub bytes : All (λ set. set < 256) sets
  pub each : (place : ℕ) → place < length cells → place < upto → (move : Move)
      → Has (slice_index sets place) move ↔ IsEqualMove map cells rows place source move

-- The row is loose at the target: a run starts there, though the run before could go on with some move, or has not the
-- least of its common moves; or the target is the last place, and the last run has not the least of its common moves.
pub data IsLooseAt (row : List Run) (sets : List ℕ) (target : ℕ) : Type 0 where
  could_go_on : (k : ℕ) → k + 1 < length row → start_at row (k + 1) ≡ target
      → (move : ℕ) → IsCommon sets (start_at row k) (target + 1) move → IsLooseAt row sets target
  not_least : (k : ℕ) → k + 1 < length row → start_at row (k + 1) ≡ target
      → (IsLeastCommon sets (start_at row k) target (move_at row k) → ⊥) → IsLooseAt row sets target
  last_not_least : (k : ℕ) → k + 1 ≡ length row → target + 1 ≡ length sets
      → (IsLeastCommon sets (start_at row k) (target + 1) (move_at row k) → ⊥) → IsLooseAt row sets target

-- the row of the source is loose at the target, by the moves that are as good as its walks
pub record IsLoose (map : Map) (cells : List Cell) (rows : List (List Run)) (target source : ℕ) : Type 0 where
  pub sets : List ℕ
  pub walk_sets : AreWalkSets map cells rows source (target + 1) sets
  pub loose : IsLooseAt (row_at rows source) sets target

-- nothing is wrong with a target: each source has a walk, none is worse than another way, and no row is loose there
pub record IsClear (map : Map) (cells : List Cell) (rows : List (List Run)) (target : ℕ) : Type 0 where
  pub walks : (source : ℕ) → source < length cells → HasWalk map cells rows target source
  pub not_worse : (source : ℕ) → source < length cells → IsWorse map cells rows target source → ⊥
  pub not_loose : (source : ℕ) → source < length cells → IsLoose map cells rows target source → ⊥

-- both are places, and nothing is wrong with the targets before
pub record IsFirstTarget (map : Map) (cells : List Cell) (rows : List (List Run)) (target source : ℕ) : Type 0 where
  pub target_within : target < length cells
  pub source_within : source < length cells
  pub before : (earlier : ℕ) → earlier < target → IsClear map cells rows earlier

-- the source is the first from which no walk leads to the target
pub record IsFirstWithout (map : Map) (cells : List Cell) (rows : List (List Run)) (target source : ℕ) : Type 0 where
  pub first : IsFirstTarget map cells rows target source
  pub none : HasNoWalk map cells rows target source
  pub earlier : (other : ℕ) → other < source → HasWalk map cells rows target other

-- all sources have walks to the target, and this is the first whose walk is worse than another way
pub record IsFirstWorse (map : Map) (cells : List Cell) (rows : List (List Run)) (target source : ℕ) : Type 0 where
  pub first : IsFirstTarget map cells rows target source
  pub walks : (other : ℕ) → other < length cells → HasWalk map cells rows target other
  pub worse : IsWorse map cells rows target source
  pub earlier : (other : ℕ) → other < source → IsWorse map cells rows target other → ⊥

-- all walks to the target are as good as any other way, and this is the first source whose row is loose there
pub record IsFirstLoose (map : Map) (cells : List Cell) (rows : List (List Run)) (target source : ℕ) : Type 0 where
  pub first : IsFirstTarget map cells rows target source
  pub walks : (other : ℕ) → other < length cells → HasWalk map cells rows target other
  pub not_worse : (other : ℕ) → other < length cells → IsWorse map cells rows target other → ⊥
  pub loose : IsLoose map cells rows target source
  pub earlier : (other : ℕ) → other < source → IsLoose map cells rows target other → ⊥

-- the first fault: of the least target, there a missing walk before a worse one before a loose row, and then of the
-- least source
abbrev pub IsFirstFault : Map → List Cell → List (List Run) → RowFault → Type 0
IsFirstFault map cells rows (Walk target source) = IsFirstWithout map cells rows target source
IsFirstFault map cells rows (Worse target source) = IsFirstWorse map cells rows target source
IsFirstFault map cells rows (Loose target source) = IsFirstLoose map cells rows target source

-- it is the first fault on each map that has just these cells
abbrev pub IsFirstFaultAmong : List Cell → List (List Run) → RowFault → Type 0
IsFirstFaultAmong cells rows fault = (map : Map) → HasJust map cells → IsFirstFault map cells rows fault

-- the rows of a component have no fault
abbrev pub RightRowsHaveNoFault : Type 0
RightRowsHaveNoFault =
    (map : Map) (cells : List Cell) (rows : List (List Run)) → AreRows cells rows → HasJust map cells
    → (fault : RowFault) → IsFirstFault map cells rows fault → ⊥
