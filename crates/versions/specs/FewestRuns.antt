-- The rows of a version have the fewest runs.
-- (Strasser, Harabor and Botea 2014: runs that reach as far as they can are the fewest)
use Rattle.std.specs.Prelude.{ℕ, ◌<◌, ◌≤◌, List, length}
use Rattle.run_pack.specs.declared.Run.{Run}
use Rattle.run_pack.specs.Runs.{Fits}
use Rattle.moves.specs.declared.Cell.{Cell}
use Rattle.moves.specs.Maps.{Map}
use Rattle.moves.specs.FirstSetLists.{cell_of, AreFirstSets}
use Rattle.row_store.specs.Comps.{Comp}
use Rattle.row_store.specs.Rows.{row_at}
use Rattle.versions.specs.Databases.{comp_at, Versioned, IsVersion}

-- a row that names, for each cell of a list, a move that begins a best path to it from one cell
pub record NamesFirstMoves (map : Map) (cells : List Cell) (from : Cell) (row : List Run) : Type 0 where
  pub sets : List ℕ
  pub first : AreFirstSets map from cells sets
  pub fits : Fits row sets

-- no row that names first moves from the cell at this place has fewer runs than the component's own
pub record HasFewestRuns (map : Map) (comp : Comp) (place : ℕ) : Type 0 where
  pub fewest : (other : List Run) → NamesFirstMoves map comp.cells (cell_of comp.cells place) other → length (row_at comp.rows place) ≤ length other

-- each row of a version has the fewest runs
abbrev pub VersionsHaveFewestRuns : Type 0
VersionsHaveFewestRuns =
    (version : Versioned) → IsVersion version → (label : ℕ) → label < length version.comps
    → (place : ℕ) → place < length (comp_at version.comps label).cells → HasFewestRuns version.map (comp_at version.comps label) place
