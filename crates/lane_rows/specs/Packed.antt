-- The rows of all lanes, packed into words.
-- (Strasser, Harabor and Botea 2014: a run reaches as far as its sets have a common move.)
use Rattle.std.specs.Prelude.{◌≡◌, ◌≢◌, ℕ, ◌<◌, List, [], ◌∷◌, ◌++◌, length, map, slice_index, slice_index_or, All}
use Rattle.run_pack.specs.declared.Run.{Run}
use Rattle.run_pack.specs.Sets.{IsLeastIn}
use Rattle.run_pack.specs.Runs.{run_of_word, IsTight}
use Rattle.moves.specs.declared.Cell.{Cell}
use Rattle.moves.specs.Maps.{Map}
use Rattle.moves.specs.FirstSetLists.{cell_of, AreFirstSets}
use Rattle.lane_rows.specs.Laws.{IsTableOf}
use Rattle.lane_rows.specs.Tiles.{Tile, IsSolved}

-- the row whose runs these words keep
abbrev pub row_of : List ℕ → List Run
row_of words = map run_of_word words

-- the sets of one lane, in the order of places
abbrev pub sets_in : List (List ℕ) → ℕ → List ℕ
sets_in rows lane = map (λ row. slice_index row lane) rows

-- the words of one lane
abbrev pub words_in : List (List ℕ) → ℕ → List ℕ
words_in words lane = slice_index_or words lane []

-- in each lane whose sets have moves, the words are those of their tight row
abbrev pub ArePackedLanes : List (List ℕ) → List (List ℕ) → Type 0
ArePackedLanes sets words = (lane : ℕ) → lane < 16 → All (λ set. 0 < set) (sets_in sets lane)
    → IsTight (row_of (words_in words lane)) (sets_in sets lane)

-- one word more, of the run that starts there and keeps the least of the moves, where there is one
pub record HasRunMore (old new : List ℕ) (start moves : ℕ) : Type 0 where
  pub word : ℕ
  pub last : new ≡ old ++ word ∷ []
  pub from : 0 < moves → (run_of_word word).start ≡ start
  pub least : 0 < moves → IsLeastIn moves (run_of_word word).mv

-- the lanes in which nothing is kept have one run more, and their next ones start at the place
pub record AreCut (old new : List (List ℕ)) (starts next common kept : List ℕ) (place : ℕ) : Type 0 where
  pub lists : length new ≡ length old
  pub whole : length next ≡ length starts
  pub words : (lane : ℕ) → lane < 16 → slice_index kept lane ≢ 0 → words_in new lane ≡ words_in old lane
  pub begun : (lane : ℕ) → lane < 16 → slice_index kept lane ≢ 0 → slice_index next lane ≡ slice_index starts lane
  pub ended : (lane : ℕ) → lane < 16 → slice_index kept lane ≡ 0
      → HasRunMore (words_in old lane) (words_in new lane) (slice_index starts lane) (slice_index common lane)
  pub again : (lane : ℕ) → lane < 16 → slice_index kept lane ≡ 0 → slice_index next lane ≡ place

-- the words of the tight row of the first sets from a cell
pub record IsPackedFrom (map : Map) (cells : List Cell) (from : Cell) (words : List ℕ) : Type 0 where
  pub sets : List ℕ
  pub first : AreFirstSets map from cells sets
  pub tight : IsTight (row_of words) sets

-- where all places meet their equations, the words of each lane are those of the row from its source
abbrev pub HavePackedRows : Tile → List (List ℕ) → Type 0
HavePackedRows tile words = (lane : ℕ) → lane < 16
    → (map : Map) (cells : List Cell) (near : List (List ℕ)) → IsTableOf map cells near → IsSolved near tile
    → IsPackedFrom map cells (cell_of cells (slice_index tile.sources lane)) (words_in words lane)
