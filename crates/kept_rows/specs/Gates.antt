-- Gates over two lists of cells: the sources of the first fifteen lanes of two tiles. What is read of keys at them.
use Rattle.std.specs.Prelude.{◌≡◌, ℕ, ◌+◌, ◌-◌, ◌<◌, ◌≤◌, ◌⊎◌, ◌↔◌, Bool, false, true, List, length, slice_index, slice_index_or, All, Contains}
use Rattle.moves.specs.declared.Cell.{Cell}
use Rattle.moves.specs.declared.Move.{Move}
use Rattle.moves.specs.MoveSets.{Has}
use Rattle.lane_rows.specs.Tables.{edges_of, end_of}
use Rattle.lane_rows.specs.Equations.{lane_of}
use Rattle.kept_rows.specs.declared.classes.TheConstants.{MOST_TO_GATE}
use Rattle.kept_rows.specs.declared.classes.Class.{Class}
use Rattle.kept_rows.specs.declared.verdict.Verdict.{Verdict}
use Rattle.kept_rows.specs.Gaps.{past}
use Rattle.kept_rows.specs.Targets.{IsAmong}
use Rattle.kept_rows.specs.Pairs.{Searched, IsPair, IsFirstByKeys}
use Rattle.kept_rows.specs.Verdicts.{AreJudged}

-- ---- the side of the gates

-- the place is of the side
abbrev pub IsOfSide : List Bool → ℕ → Type 0
IsOfSide side place = slice_index_or side place false ≡ true

-- the place of the longer list is that of a cell of the side, or of a gate
pub record LeadsBack (gaps : List ℕ) (count : ℕ) (side : List Bool) (gates : List ℕ) (there : ℕ) : Type 0 where
  pub place : ℕ
  pub within : place < count
  pub is : past gaps place ≡ there
  pub known : IsOfSide side place ⊎ IsAmong gates 15 place

-- if the place is of the side, each move from it over the longer list leads to the side, or to a gate
abbrev pub LeadOnlyBack : List (List ℕ) → List ℕ → ℕ → List Bool → List ℕ → ℕ → Type 0
LeadOnlyBack near gaps count side gates place = (move : Move) → IsOfSide side place
    → end_of (edges_of near (past gaps place)) move < length near
    → LeadsBack gaps count side gates (end_of (edges_of near (past gaps place)) move)

-- so is each place: the side is left by the gates alone
pub record IsLeftByLanes (near : List (List ℕ)) (gaps : List ℕ) (count : ℕ) (side : List Bool) (gates : List ℕ) : Type 0 where
  pub each : (place : ℕ) → place < count → LeadOnlyBack near gaps count side gates place

-- both lists are searched from the same gates, by which alone the side is left
pub record AreGates (whole part : Searched) (gaps : List ℕ) (side : List Bool) : Type 0 where
  pub both : IsPair whole part gaps
  pub left : IsLeftByLanes whole.near gaps (length part.cells) side part.tile.sources

-- ---- the keys of one place in the lanes of the gates

-- the keys of a place in the lanes of the gates, none so great that two of them are beyond the greatest
pub record AreGateKeys (side : Searched) (place : ℕ) (keys : List ℕ) : Type 0 where
  pub each : (lane : ℕ) → lane < 15 → slice_index keys lane ≡ lane_of side.tile.keys lane place
  pub low : (lane : ℕ) → lane < 15 → slice_index keys lane ≤ MOST_TO_GATE

-- it costs the least to go by the gate of this lane, if it costs so much to go there and so much from there on
pub record IsLeastLane (there onward : List ℕ) (lane : ℕ) : Type 0 where
  pub early : lane < 15
  pub least : (other : ℕ) → other < 15
      → slice_index there lane + slice_index onward lane ≤ slice_index there other + slice_index onward other

-- the move is in the set of a lane by which it costs the least to go
abbrev pub IsByLeast : List ℕ → List ℕ → List ℕ → Move → Type 0
IsByLeast there onward sets move = (lane : ℕ) × IsLeastLane there onward lane × Has (slice_index sets lane) move

-- the numbers of the one list are those of the other and one amount
pub record IsEvenlyMore (more less : List ℕ) : Type 0 where
  pub amount : ℕ
  pub each : (lane : ℕ) → lane < 15 → slice_index more lane ≡ slice_index less lane + amount

-- from the end of so many lanes on, all numbers are that of the last of these
pub record IsRepeated (count : ℕ) (numbers : List ℕ) : Type 0 where
  pub some : 0 < count
  pub few : count ≤ 15
  pub same : (lane : ℕ) → count ≤ lane → lane < 15 → slice_index numbers lane ≡ slice_index numbers (count - 1)

-- ---- classes of places

-- the place is of the class: its keys over each list are those of the class and one amount
pub record IsOfClass (whole part : Searched) (gaps : List ℕ) (place : ℕ) (class : Class) : Type 0 where
  pub whole_keys : List ℕ
  pub part_keys : List ℕ
  pub over_whole : AreGateKeys whole (past gaps place) whole_keys
  pub over_part : AreGateKeys part place part_keys
  pub even_whole : IsEvenlyMore whole_keys class.whole
  pub even_part : IsEvenlyMore part_keys class.part

-- the keys of the class are the same over both lists
abbrev pub IsSameClass : Class → Type 0
IsSameClass class = (lane : ℕ) → lane < 15 → slice_index class.whole lane ≡ slice_index class.part lane

-- the keys of the class are repeated over both lists
pub record IsRepeatedClass (count : ℕ) (class : Class) : Type 0 where
  pub whole : IsRepeated count class.whole
  pub part : IsRepeated count class.part

-- no number of the class is so great that a key of a gate and it are beyond the greatest
pub record IsLow (class : Class) : Type 0 where
  pub whole : (lane : ℕ) → lane < 15 → slice_index class.whole lane ≤ MOST_TO_GATE
  pub part : (lane : ℕ) → lane < 15 → slice_index class.part lane ≤ MOST_TO_GATE

-- if the place is beyond the gates, it is of a class that is the same over both lists, or of one of these
abbrev pub IsClassed : Searched → Searched → List ℕ → List Bool → List Class → ℕ → Type 0
IsClassed whole part gaps side classes place = (IsOfSide side place → ⊥) → (IsAmong part.tile.sources 15 place → ⊥)
    → (class : Class) × IsOfClass whole part gaps place class × (IsSameClass class ⊎ Contains classes class)

-- so is each place
pub record AreClasses (whole part : Searched) (gaps : List ℕ) (side : List Bool) (classes : List Class) : Type 0 where
  pub each : (place : ℕ) → place < length part.cells → IsClassed whole part gaps side classes place
  pub low : All IsLow classes

-- the new list has the classes of the old one, and none that is too great if the old one has none
pub record AreMore (old new : List Class) : Type 0 where
  pub kept : (class : Class) → Contains old class → Contains new class
  pub low : All IsLow old → All IsLow new

-- to go to the places of the class the same first moves are best over both lists
abbrev pub IsClassKept : List ℕ → List ℕ → Class → Type 0
IsClassKept there sets class = (move : Move) → IsByLeast there class.whole sets move ↔ IsByLeast there class.part sets move

-- ---- what is told of a source

-- in the lanes of the gates, of which none is the place, both lists have the same first sets and the same keys
pub record AgreesAtGates (whole part : Searched) (gaps : List ℕ) (place : ℕ) (there sets : List ℕ) : Type 0 where
  pub apart : IsAmong part.tile.sources 15 place → ⊥
  pub keys_whole : AreGateKeys whole (past gaps place) there
  pub keys_part : AreGateKeys part place there
  pub first_whole : (lane : ℕ) → lane < 15
      → IsFirstByKeys whole.near (lane_of whole.tile.keys lane) (past gaps place) (slice_index sets lane)
  pub first_part : (lane : ℕ) → lane < 15 → IsFirstByKeys part.near (lane_of part.tile.keys lane) place (slice_index sets lane)

-- whatever was judged of the former verdicts holds of the later ones
abbrev pub KeepsJudged : List Cell → List Cell → List Verdict → List Verdict → Type 0
KeepsJudged whole part former later =
    (ball : List ℕ) (count : ℕ) → AreJudged whole part ball count former → AreJudged whole part ball count later
