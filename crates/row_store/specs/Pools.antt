-- Lists of rows that grow by the packed rows of sets.
use Rattle.std.specs.Prelude.{◌≡◌, ℕ, ◌<◌, ◌≤◌, List, [], ◌∷◌, ◌++◌, slice_set, length, All}
use Rattle.run_pack.specs.declared.Run.{Run}
use Rattle.run_pack.specs.declared.TheConstants.{MAX_PLACES}
use Rattle.run_pack.specs.Runs.{IsPacked}
use Rattle.row_store.specs.Rows.{row_at}

-- runs that can be kept as words
pub record CanBeKept (runs : List Run) : Type 0 where
  pub few : length runs ≤ MAX_PLACES
  pub starts : All (λ run. run.start < MAX_PLACES) runs
  pub moves : All (λ run. run.mv ≤ 7) runs

-- the packed row of these sets is the last row, and the others are unchanged
pub record PushesPacked (old new : List (List Run)) (sets : List ℕ) : Type 0 where
  pub row : List Run
  pub packed : IsPacked row sets
  pub last : new ≡ old ++ row ∷ []

-- the packed row of these sets is the row at that place, and the others are unchanged
pub record PutsPacked (old new : List (List Run)) (place : ℕ) (sets : List ℕ) : Type 0 where
  pub row : List Run
  pub packed : IsPacked row sets
  pub there : new ≡ slice_set old place row

-- the first row, or the second if the first has no runs
abbrev pub merged : List Run → List Run → List Run
merged [] other = other
merged (run ∷ runs) other = run ∷ runs

-- each row of the new list is that of the old list, or that of the other list if the old row has no runs
pub record AreMerged (old other new : List (List Run)) : Type 0 where
  pub whole : length new ≡ length old
  pub each : (place : ℕ) → place < length old → row_at new place ≡ merged (row_at old place) (row_at other place)

-- the rows before `upto` are merged, and the rest are unchanged
pub record AreMergedTo (old other new : List (List Run)) (upto : ℕ) : Type 0 where
  pub whole : length new ≡ length old
  pub each : (place : ℕ) → place < upto → row_at new place ≡ merged (row_at old place) (row_at other place)
  pub rest : (place : ℕ) → upto ≤ place → row_at new place ≡ row_at old place

-- the rows before some place are merged, and the rest are unchanged
abbrev pub AreMergedInPart : List (List Run) → List (List Run) → List (List Run) → Type 0
AreMergedInPart old other new = (upto : ℕ) × AreMergedTo old other new upto
