-- What is known of the cells of the shorter list after some pairs of tiles.
use Rattle.std.specs.Prelude.{◌≡◌, ℕ, ◌+◌, ◌-◌, ◌<◌, ◌≤◌, IsBitSet, Bool, true, List, length, slice_index, slice_index_or}
use Rattle.moves.specs.declared.Cell.{Cell}
use Rattle.lane_rows.specs.Tables.{IsNumbered}
use Rattle.row_edit.specs.declared.PlaceSet.{PlaceSet}
use Rattle.kept_rows.specs.declared.verdict.Verdict.{Verdict}
use Rattle.kept_rows.specs.declared.verdict.Verdict.TheVariants.{Lost, Open, Kept}
use Rattle.kept_rows.specs.Gaps.{IsPart}
use Rattle.kept_rows.specs.Targets.{ArePlaces, IsRoundGaps, AreMarked}
use Rattle.kept_rows.specs.Pairs.{Searched, IsPair}
use Rattle.kept_rows.specs.Staying.{FirstStays, CostStays, AllStay, AreFirstSetsOfAll}

-- the first sets to so many cells of the ball stay, and the costs to those of them whose bits are set
pub record IsOpen (whole part : List Cell) (ball : List ℕ) (count from costs : ℕ) : Type 0 where
  pub first : (index : ℕ) → index < count → FirstStays whole part from (slice_index ball index)
  pub cost : (index : ℕ) → IsBitSet costs index → (index < count) × CostStays whole part from (slice_index ball index)

-- what a verdict says of a cell, where so many cells of the ball were looked at
abbrev pub Holds : List Cell → List Cell → List ℕ → ℕ → ℕ → Verdict → Type 0
Holds whole part ball count from Lost = Unit {0}
Holds whole part ball count from (Open costs) = IsOpen whole part ball count from costs
Holds whole part ball count from Kept = AllStay whole part from

-- a verdict for each cell
pub record AreJudged (whole part : List Cell) (ball : List ℕ) (count : ℕ) (verdicts : List Verdict) : Type 0 where
  pub size : length verdicts ≡ length part
  pub each : (from : ℕ) → Holds whole part ball count from (slice_index_or verdicts from Lost)

-- a pair of tiles from the last cells of a ball, the marks of that ball, and whether it is round the gaps
pub record IsStage (whole part : Searched) (gaps ball : List ℕ) (former marks : ℕ) (is_round : Bool) : Type 0 where
  pub is_pair : IsPair whole part gaps
  pub places : ArePlaces part.cells ball
  pub round : is_round ≡ true → IsRoundGaps whole.cells part.cells gaps ball
  pub marked : AreMarked part.near ball marks
  pub early : former ≤ length ball
  pub few : length ball ≤ former + 15
  pub lanes : (index : ℕ) → former ≤ index → index < length ball → slice_index ball index ≡ slice_index part.tile.sources (index - former)

-- what was found: a verdict for each cell, and the first sets to the cells of the first pair
pub record AreSurveyed (whole part : List Cell) (gaps sources : List ℕ) (sets : List (List ℕ)) (ball : List ℕ) (verdicts : List Verdict) : Type 0 where
  pub cells : IsPart whole part gaps
  pub numbered : IsNumbered whole
  pub inside : (lane : ℕ) → lane < 16 → slice_index sources lane < length part
  pub known : AreFirstSetsOfAll whole part gaps sources sets
  pub places : ArePlaces part ball
  pub judged : AreJudged whole part ball (length ball) verdicts

-- the known set of a lane
pub record IsOfLane (sources sets : List ℕ) (one : PlaceSet) : Type 0 where
  pub lane : ℕ
  pub early : lane < 15
  pub place : one.place ≡ slice_index sources lane
  pub set : one.set ≡ slice_index sets lane
