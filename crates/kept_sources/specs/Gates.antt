-- Gates: cells by which alone a side of a map is left. What a source has to its gates tells what it has to all cells.
use Rattle.std.specs.Prelude.{◌≡◌, ◌≢◌, ◌⊎◌, ◌↔◌, Bool, true, false, List, ◌++◌, Some}
use Rattle.root_cost.specs.declared.Cost.{Cost}
use Rattle.root_cost.specs.Costs.{IsAtMost, sum_of}
use Rattle.moves.specs.declared.Cell.{Cell}
use Rattle.moves.specs.declared.Move.{Move}
use Rattle.moves.specs.Maps.{Map, is_cell}
use Rattle.moves.specs.Moves.{IsLegal}
use Rattle.moves.specs.Paths.{Leads, Reaches, IsLeastCost}
use Rattle.moves.specs.FirstSets.{IsFirstMove}
use Rattle.kept_sources.specs.Parts.{IsPart, IsTakenOut, HaveSameFirst, HaveSameCost}

-- A side is left by its gates alone: a legal move from one of its cells leads to one of its cells or to a gate. Both
-- are tests of cells; a flood that does not go on from gates finds such a side.
abbrev pub IsLeftByGates : Map → (Cell → Bool) → (Cell → Bool) → Type 0
IsLeftByGates map gate side =
    (from : Cell) (move : Move) (to : Cell) → side from ≡ true → IsLegal map from move to → gate to ≡ false
    → side to ≡ true

-- so each path from the side to a cell that is not of the side passes a gate
abbrev pub PathsPassGates : Type 0
PathsPassGates =
    (map : Map) (gate side : Cell → Bool) → IsLeftByGates map gate side
    → (from : Cell) (moves : List Move) (to : Cell) → side from ≡ true → side to ≡ false → Leads map from moves to
    → (first rest : List Move) × (by : Cell) × (moves ≡ first ++ rest) × (gate by ≡ true)
    × Leads map from first by × Leads map by rest to

-- the gates part a side from all that is taken out: nothing of the side is, nor is a gate
pub record IsApart (map part : Map) (gate side : Cell → Bool) : Type 0 where
  pub closed : IsLeftByGates map gate side
  pub side_stays : (cell : Cell) → side cell ≡ true → IsTakenOut map part cell → ⊥
  pub gates_stay : (cell : Cell) → gate cell ≡ true → IsTakenOut map part cell → ⊥

-- the first sets of a source to the cells of a test are in the part those of the map, and so are its least costs to
-- them
pub record AgreesAt (map part : Map) (test : Cell → Bool) (source : Cell) : Type 0 where
  pub first : (to : Cell) → test to ≡ true → HaveSameFirst map part source to
  pub cost : (to : Cell) → test to ≡ true → HaveSameCost map part source to

-- The law of gates, for the side: a source, wherever it is, that agrees at the gates agrees on the whole side.
abbrev pub GatesKeepSides : Type 0
GatesKeepSides =
    (map part : Map) (gate side : Cell → Bool) (source : Cell)
    → IsPart map part → IsApart map part gate side → AgreesAt map part gate source → AgreesAt map part side source

-- ---- beyond the gates

-- What it costs to go by a cell: the least cost of the way to it, on the one map, and of the way on, on the other.
abbrev pub CostsBy : Map → Map → Cell → Cell → Cell → Cost → Type 0
CostsBy near far from by to cost =
    (there onward : Cost) × IsLeastCost near from by (Some there) × IsLeastCost far by to (Some onward)
    × (cost ≡ sum_of there onward)

-- it costs the least of all gates to go by this one, and so much
pub record IsBestGate (near far : Map) (gate : Cell → Bool) (from to by : Cell) (cost : Cost) : Type 0 where
  pub is_gate : gate by ≡ true
  pub costs : CostsBy near far from by to cost
  pub least : (other : Cell) (more : Cost) → gate other ≡ true → CostsBy near far from other to more → IsAtMost cost more

-- The first set of two cells on the far map is the union of those to the best gates on the near one, and the least cost
-- is what it costs to go by a best gate.
pub record IsGivenByGates (near far : Map) (gate : Cell → Bool) (from to : Cell) : Type 0 where
  pub first : (move : Move) → IsFirstMove far from to move
      ↔ ((by : Cell) × (cost : Cost) × IsBestGate near far gate from to by cost × IsFirstMove near from by move)
  pub cost : (cost : Cost) → IsLeastCost far from to (Some cost)
      ↔ ((by : Cell) × IsBestGate near far gate from to by cost)

-- The law of gates, beyond the side: what a source of the side that agrees at the gates has to a cell that is not of
-- the side is given by the gates, in the part too, and by what the map has to them.
abbrev pub GatesGiveTheRest : Type 0
GatesGiveTheRest =
    (map part : Map) (gate side : Cell → Bool) (source to : Cell)
    → IsPart map part → IsApart map part gate side → AgreesAt map part gate source
    → side source ≡ true → gate source ≡ false → side to ≡ false
    → IsGivenByGates map map gate source to × IsGivenByGates map part gate source to

-- From each gate the way to the one cell on the one map costs what the way to the other cell costs on the other, but
-- for an amount that is one for all gates; and where the one is not reached, the other is not.
pub record CostsDifferEvenly (a b : Map) (gate : Cell → Bool) (to other : Cell) : Type 0 where
  pub less : Cost
  pub more : Cost
  pub reached : (by : Cell) → gate by ≡ true → Reaches a by to ↔ Reaches b by other
  pub even : (by : Cell) (x y : Cost) → gate by ≡ true
      → IsLeastCost a by to (Some x) → IsLeastCost b by other (Some y) → sum_of x more ≡ sum_of y less

-- cells whose costs from the gates differ evenly have one first set: so it is told by those costs less the least of
-- them
abbrev pub EvenCostsGiveOneFirstSet : Type 0
EvenCostsGiveOneFirstSet =
    (near a b : Map) (gate : Cell → Bool) (source to other : Cell)
    → IsGivenByGates near a gate source to → IsGivenByGates near b gate source other → CostsDifferEvenly a b gate to other
    → (move : Move) → IsFirstMove a source to move ↔ IsFirstMove b source other move

-- ---- one gate

-- All that leads from the one cell to the other goes by the gate: the first set is that to the gate where the gate
-- reaches the cell, else it is empty, and the least cost is what it costs to go by the gate.
pub record IsGivenByOne (map : Map) (gate from to : Cell) : Type 0 where
  pub first : (move : Move) → IsFirstMove map from to move ↔ (Reaches map gate to × IsFirstMove map from gate move)
  pub cost : (cost : Cost) → IsLeastCost map from to (Some cost) ↔ CostsBy map map from gate to cost

-- The law of one gate: it gives what leads from the side to any cell that is not of the side.
abbrev pub OneGateGivesTheRest : Type 0
OneGateGivesTheRest =
    (map : Map) (gate : Cell) (side : Cell → Bool) (from to : Cell) → IsLeftByGates map (is_cell gate) side
    → side from ≡ true → from ≢ gate → side to ≡ false → IsGivenByOne map gate from to

-- a pocket: a side with one gate
abbrev pub IsPocket : Map → Map → Cell → (Cell → Bool) → Type 0
IsPocket map part gate side = IsApart map part (is_cell gate) side

-- the cell is of the pocket, whose gate belongs to it
abbrev pub IsInPocket : Cell → (Cell → Bool) → Cell → Type 0
IsInPocket gate side cell = (side cell ≡ true) ⊎ (cell ≡ gate)

-- all cells of the pocket have the same first sets and least costs to each other in the part as on the map, and those
-- of the side the same first sets to all that is reached from the gate in both or in neither
pub record AgreesInPocket (map part : Map) (gate : Cell) (side : Cell → Bool) : Type 0 where
  pub first : (from to : Cell) → IsInPocket gate side from → IsInPocket gate side to → HaveSameFirst map part from to
  pub cost : (from to : Cell) → IsInPocket gate side from → IsInPocket gate side to → HaveSameCost map part from to
  pub beyond : (from to : Cell) → side from ≡ true → from ≢ gate → Reaches map gate to ↔ Reaches part gate to
      → HaveSameFirst map part from to

-- The law of pockets: nothing has to be tested.
abbrev pub PocketsKeepSources : Type 0
PocketsKeepSources =
    (map part : Map) (gate : Cell) (side : Cell → Bool)
    → IsPart map part → IsPocket map part gate side → AgreesInPocket map part gate side
