-- What the call tells that asks what paths cost from a cell to many.
use Rattle.std.specs.Prelude.{◌≡◌, ℕ, ◌<◌, ◌≤◌, List, length, min, slice_index_or}
use Rattle.moves.specs.declared.Cell.{Cell}
use Rattle.pathdb.specs.declared.status.Status.{Status}
use Rattle.pathdb.specs.declared.queries.PathdbCell.{PathdbCell}
use Rattle.pathdb.specs.declared.queries.PathdbCost.{PathdbCost}
use Rattle.pathdb.specs.Calls.{SaysCost, cell_of}

-- what stands in place of a cost where there is none: no path costs as much
abbrev pub no_cost : PathdbCost
no_cost = record { straight = 4294967295; diagonal = 4294967295 }

-- this is what the path costs, or there is no cost, for a reason that has a status
pub record IsCostFor (words : List ℕ) (start goal : Cell) (cost : PathdbCost) : Type 0 where
  pub status : Status
  pub says : SaysCost words start goal no_cost cost status

-- the goal with that number
abbrev pub goal_at : List PathdbCell → ℕ → Cell
goal_at goals number = cell_of (slice_index_or goals number (record { x = 0; y = 0 }))

-- the costs of the paths to the first of the goals stand at the front of the room, and the others are as they were
pub record WritesCosts (words : List ℕ) (start : Cell) (goals : List PathdbCell) (old new : List PathdbCost) (count : ℕ) : Type 0 where
  pub many : count ≡ min (length goals) (length old)
  pub each : (number : ℕ) → number < count → IsCostFor words start (goal_at goals number) (slice_index_or new number no_cost)
  pub rest : (number : ℕ) → count ≤ number → slice_index_or new number no_cost ≡ slice_index_or old number no_cost
