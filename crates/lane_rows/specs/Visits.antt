-- Places are visited in any order, and each visit makes the key and the set of one place meet their equations. Those
-- that may no longer meet theirs are let wait.
use Rattle.std.specs.Prelude.{◌≡◌, ◌≢◌, ℕ, ◌+◌, ◌<◌, ◌⊎◌, List, length, slice_index}
use Rattle.root_cost.specs.declared.TheConstants.{GREATEST_KEY}
use Rattle.moves.specs.declared.Move.{Move}
use Rattle.moves.specs.MoveSets.{Has}
use Rattle.lane_rows.specs.Tables.{IsMutual, edges_of, end_of}
use Rattle.lane_rows.specs.Equations.{far, lane_of, AreInRange, MeetsKey, MeetsSet}

-- the set has all eight moves
abbrev pub IsFull : ℕ → Type 0
IsFull set = (move : Move) → Has set move

-- key and set of the place meet their equations, and the set is not full
pub record IsSettled (near : List (List ℕ)) (source : ℕ) (keys sets : ℕ → ℕ) (place : ℕ) : Type 0 where
  pub key : MeetsKey (edges_of near place) source keys place (keys place)
  pub set : MeetsSet (edges_of near place) source keys sets (keys place) (sets place)
  pub not_full : IsFull (sets place) → ⊥

-- one lane while places are visited: the key and the set of each place, and whether it waits (0 where not)
pub record LaneAt : Type 0 where
  pub keys : ℕ → ℕ
  pub sets : ℕ → ℕ
  pub waits : ℕ → ℕ

-- all lanes: for each place a row of keys and one of sets, and whether it waits
pub record LanesAt : Type 0 where
  pub keys : List (List ℕ)
  pub sets : List (List ℕ)
  pub waits : List ℕ

-- the lanes with these keys, sets and marks of who waits
abbrev pub lanes_at : List (List ℕ) → List (List ℕ) → List ℕ → LanesAt
lanes_at keys sets waits = record { keys = keys; sets = sets; waits = waits }

-- the lane with this number
abbrev pub lane_in : LanesAt → ℕ → LaneAt
lane_in all lane = record {
  keys = lane_of all.keys lane;
  sets = lane_of all.sets lane;
  waits = slice_index all.waits;
}

-- each place that does not wait is settled
pub record AreSettled (near : List (List ℕ)) (source : ℕ) (at : LaneAt) : Type 0 where
  pub each : (place : ℕ) → place < length near → at.waits place ≡ 0 → IsSettled near source at.keys at.sets place

-- A visit writes the key and the set of one place by those of its neighbours, and lets them all wait, unless the key is
-- as before, and the set as well or full before. It waits itself where its set is full.
pub record IsVisit (edges : List ℕ) (source place : ℕ) (old new : LaneAt) : Type 0 where
  pub same_keys : (other : ℕ) → other ≢ place → new.keys other ≡ old.keys other
  pub same_sets : (other : ℕ) → other ≢ place → new.sets other ≡ old.sets other
  pub still_waits : (other : ℕ) → other ≢ place → new.waits other ≡ 0 → old.waits other ≡ 0
  pub key : MeetsKey edges source old.keys place (new.keys place)
  pub set : MeetsSet edges source old.keys old.sets (new.keys place) (new.sets place)
  pub not_full : new.waits place ≡ 0 → IsFull (new.sets place) → ⊥
  pub marked : ((new.keys place ≡ old.keys place) × ((new.sets place ≡ old.sets place) ⊎ IsFull (old.sets place)))
      ⊎ ((move : Move) → end_of edges move ≢ place → new.waits (end_of edges move) ≡ 0 → ⊥)

-- a visit keeps settled who does not wait
abbrev pub VisitsKeepSettled : Type 0
VisitsKeepSettled =
    (near : List (List ℕ)) (source place : ℕ) (old new : LaneAt) → IsMutual near → place < length near
    → IsVisit (edges_of near place) source place old new
    → AreSettled near source old → AreSettled near source new

-- After visits, in each lane: keys are in range, the row behind the last place is as before, and who was settled where
-- it did not wait still is.
pub record IsSwept (near : List (List ℕ)) (sources : List ℕ) (old new : LanesAt) : Type 0 where
  pub range : AreInRange new.keys
  pub last : (lane : ℕ) → lane < 16 → lane_of new.keys lane (length near) ≡ lane_of old.keys lane (length near)
  pub settled : (lane : ℕ) → lane < 16
      → AreSettled near (slice_index sources lane) (lane_in old lane)
      → AreSettled near (slice_index sources lane) (lane_in new lane)

-- there is a row for each place, and one behind the last
pub record HasRows (near : List (List ℕ)) (all : LanesAt) : Type 0 where
  pub key_rows : length all.keys ≡ length near + 1
  pub set_rows : length all.sets ≡ length near + 1
  pub wait_rows : length all.waits ≡ length near + 1

-- all places of one lane are settled, each with a key below the greatest that gives back its cost, and the row behind the last place is far
pub record AreSolved (near : List (List ℕ)) (source : ℕ) (keys sets : ℕ → ℕ) : Type 0 where
  pub settled : (place : ℕ) → place < length near → IsSettled near source keys sets place
  pub small : (place : ℕ) → place < length near → keys place < GREATEST_KEY
  pub none : keys (length near) ≡ far
