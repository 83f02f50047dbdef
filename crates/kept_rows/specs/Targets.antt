-- The places to which first sets are compared: one in each lane of a pair of tiles, and the ball that such places make.
use Rattle.std.specs.Prelude.{◌≡◌, ℕ, ◌+◌, ◌<◌, ◌≤◌, ◌⊎◌, IsBitSet, List, length, slice_index}
use Rattle.moves.specs.declared.Cell.{Cell}
use Rattle.moves.specs.declared.Move.{Move}
use Rattle.moves.specs.FirstSetLists.{cell_of}
use Rattle.kept_sources.specs.Balls.{IsBeside}
use Rattle.lane_rows.specs.Tables.{edges_of, end_of}
use Rattle.kept_rows.specs.declared.ball.TheConstants.{MAX_BALL}
use Rattle.kept_rows.specs.Gaps.{past}

-- the place is one of the first places
pub record IsAmong (places : List ℕ) (count place : ℕ) : Type 0 where
  pub index : ℕ
  pub early : index < count
  pub is : slice_index places index ≡ place

-- the same cells in the longer list, and in the last lane that of the first gap
pub record AreMoved (gaps sources moved : List ℕ) : Type 0 where
  pub same : (lane : ℕ) → lane < 15 → slice_index moved lane ≡ past gaps (slice_index sources lane)
  pub last : slice_index moved 15 ≡ slice_index gaps 0

-- places of a list, one in each lane, of which the first are for the ball
pub record AreTargets (cells : List Cell) (sources : List ℕ) (count : ℕ) : Type 0 where
  pub few : count < 16
  pub inside : (lane : ℕ) → lane < 16 → slice_index sources lane < length cells

-- the ball has the places that it had, and those of the first lanes
pub record IsGrown (former sources : List ℕ) (count : ℕ) (ball : List ℕ) : Type 0 where
  pub size : length ball ≡ length former + count
  pub before : (index : ℕ) → index < length former → slice_index ball index ≡ slice_index former index
  pub added : (lane : ℕ) → lane < count → slice_index ball (length former + lane) ≡ slice_index sources lane

-- places of a list, few enough for a bit each
pub record ArePlaces (cells : List Cell) (ball : List ℕ) : Type 0 where
  pub few : length ball ≤ MAX_BALL
  pub inside : (index : ℕ) → index < length ball → slice_index ball index < length cells

-- the ball has all cells of a list that are beside one cell
pub record IsRound (cells : List Cell) (hole : Cell) (ball : List ℕ) : Type 0 where
  pub beside : (place : ℕ) → place < length cells → IsBeside hole (cell_of cells place) → IsAmong ball (length ball) place

-- the ball has all cells of the shorter list that are beside one of a gap
pub record IsRoundGaps (whole part : List Cell) (gaps ball : List ℕ) : Type 0 where
  pub each : (number : ℕ) → number < length gaps → IsRound part (cell_of whole (slice_index gaps number)) ball

-- the cells of all gaps in the lanes, and in each lane one of the longer list
pub record AreGapLanes (whole : List Cell) (gaps lanes : List ℕ) : Type 0 where
  pub same : (number : ℕ) → number < length gaps → slice_index lanes number ≡ slice_index gaps number
  pub inside : (lane : ℕ) → lane < 16 → slice_index lanes lane < length whole

-- each move from the place leads to one of the ball
pub record StaysIn (near : List (List ℕ)) (ball : List ℕ) (place : ℕ) : Type 0 where
  pub each : (move : Move) → end_of (edges_of near place) move < length near → IsAmong ball (length ball) (end_of (edges_of near place) move)

-- a place of the ball from which a move leads out of it is marked: its bit is set
pub record AreMarked (near : List (List ℕ)) (ball : List ℕ) (marks : ℕ) : Type 0 where
  pub out : (index : ℕ) → index < length ball → StaysIn near ball (slice_index ball index) ⊎ IsBitSet marks index
