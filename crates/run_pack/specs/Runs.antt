-- Rows of runs: a list of sets of moves, kept as one move for each run of neighbouring places.
-- Source: Strasser, Harabor and Botea, "Fast First-Move Queries through Run-Length Encoding" (SoCS 2014):
-- a row may keep any one optimal first move of each place, so a run reaches as far as its sets share a move.
use Rattle.std.specs.Prelude.{◌≡◌, ℕ, ◌+◌, ◌*◌, ◌/◌, ◌%◌, ◌<◌, ◌≤◌, List, ◌++◌, length, map, slice_index, slice_index_or, All}
use Rattle.std.specs.List.Sorted.{IsStrictlyIncreasing}
use Rattle.run_pack.specs.declared.Run.{Run}
use Rattle.run_pack.specs.declared.TheConstants.{MAX_PLACES}
use Rattle.run_pack.specs.Sets.{Has, IsCommon, IsLeastCommon}

-- the places where the runs start
abbrev pub starts_of : List Run → List ℕ
starts_of runs = map (λ run. run.start) runs

-- the run that is read past the end of a list of runs
abbrev pub no_run : Run
no_run = record { start = 0; mv = 0 }

-- where run `k` starts
abbrev pub start_at : List Run → ℕ → ℕ
start_at runs k = (slice_index_or runs k no_run).start

-- the move of run `k`
abbrev pub move_at : List Run → ℕ → ℕ
move_at runs k = (slice_index_or runs k no_run).mv

-- where run `k` ends: at the start of the next run, or at the number of places if it is the last
abbrev pub end_at : List Run → ℕ → ℕ → ℕ
end_at runs places k = slice_index_or (starts_of runs) (k + 1) places

-- there is at least one run, the first starts at 0, and the starts increase
pub record Rises (runs : List Run) : Type 0 where
  pub some : 0 < length runs
  pub first : start_at runs 0 ≡ 0
  pub rising : IsStrictlyIncreasing (starts_of runs)

-- a row over this many places
pub record IsRow (runs : List Run) (places : ℕ) : Type 0 where
  pub rises : Rises runs
  pub inside : All (λ start. start < places) (starts_of runs)

-- run `k` covers this place
pub record Covers (runs : List Run) (places k place : ℕ) : Type 0 where
  pub from : start_at runs k ≤ place
  pub upto : place < end_at runs places k

-- a row that holds for these sets: each run's move is in every set that the run covers
pub record Fits (runs : List Run) (sets : List ℕ) : Type 0 where
  pub row : IsRow runs (length sets)
  pub held : (k : ℕ) → k < length runs → IsCommon sets (start_at runs k) (end_at runs (length sets) k) (move_at runs k)

-- a row in which each run keeps the least common move of its sets, and one more set would leave no common move
pub record IsTight (runs : List Run) (sets : List ℕ) : Type 0 where
  pub row : IsRow runs (length sets)
  pub least : (k : ℕ) → k < length runs → IsLeastCommon sets (start_at runs k) (end_at runs (length sets) k) (move_at runs k)
  pub maximal : (k : ℕ) → k + 1 < length runs → (move : ℕ) → IsCommon sets (start_at runs k) (end_at runs (length sets) k + 1) move → ⊥

-- no row that holds for these sets has fewer runs
pub record HasFewest (runs : List Run) (sets : List ℕ) : Type 0 where
  pub fewest : (other : List Run) → Fits other sets → length runs ≤ length other

-- tight rows have the fewest runs of all rows that hold for their sets
abbrev pub TightRowsHaveFewestRuns : Type 0
TightRowsHaveFewestRuns = (runs : List Run) (sets : List ℕ) → IsTight runs sets → HasFewest runs sets

-- no other row is tight for these sets
pub record IsOnlyTight (runs : List Run) (sets : List ℕ) : Type 0 where
  pub only : (other : List Run) → IsTight other sets → other ≡ runs

-- sets that have a tight row: at least one, no more than a word can count, and none of them empty
pub record ArePackable (sets : List ℕ) : Type 0 where
  pub some : 0 < length sets
  pub few : length sets ≤ MAX_PLACES
  pub non_empty : All (λ set. 0 < set) sets

-- these sets packed: their only tight row, which holds for them with the fewest runs
pub record IsPacked (runs : List Run) (sets : List ℕ) : Type 0 where
  pub tight : IsTight runs sets
  pub only : IsOnlyTight runs sets
  pub fits : Fits runs sets
  pub fewest : HasFewest runs sets

-- run `k` is the last that starts at or before the place
pub record IsLastUpTo (runs : List Run) (place k : ℕ) : Type 0 where
  pub within : k < length runs
  pub reached : start_at runs k ≤ place
  pub last : (later : ℕ) → k < later → later < length runs → place < start_at runs later

-- the move of the last run that starts at or before the place
pub record IsMoveFor (runs : List Run) (place move : ℕ) : Type 0 where
  pub run : ℕ
  pub last : IsLastUpTo runs place run
  pub is : move ≡ move_at runs run

-- the move of the run that covers this place
pub record IsCoveringMove (runs : List Run) (places place move : ℕ) : Type 0 where
  pub run : ℕ
  pub within : run < length runs
  pub covers : Covers runs places run place
  pub is : move ≡ move_at runs run

-- the move of the run that covers this place, if the runs are a row over any number of places that includes it
pub record IsCoveringInside (runs : List Run) (place move : ℕ) : Type 0 where
  pub covering : (places : ℕ) → IsRow runs places → place < places → IsCoveringMove runs places place move

-- a move in the set of this place, for any sets that the row holds for
pub record IsInSetOfPlace (runs : List Run) (place move : ℕ) : Type 0 where
  pub held : (sets : List ℕ) → Fits runs sets → place < length sets → Has (slice_index sets place) move

-- what a look-up finds for a place: the move of the last run that starts at or before it. That run covers the place,
-- over any number of places that includes it, and for any sets that the row holds for, the move is in the place's set.
pub record IsFound (runs : List Run) (place move : ℕ) : Type 0 where
  pub last : IsMoveFor runs place move
  pub covering : IsCoveringInside runs place move
  pub held : IsInSetOfPlace runs place move

-- a run as one word: its start and, in the lowest three bits, its move
abbrev pub word_of : Run → ℕ
word_of run = run.start * 8 + run.mv

-- the run that a word stands for
abbrev pub run_of_word : ℕ → Run
run_of_word word = record { start = word / 8; mv = word % 8 }

-- the old words are followed by the words of the packed row of these sets
pub record AppendsRow (old new sets : List ℕ) : Type 0 where
  pub row : List ℕ
  pub behind : new ≡ old ++ row
  pub packed : IsPacked (map run_of_word row) sets
