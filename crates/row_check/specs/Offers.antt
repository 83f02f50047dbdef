-- What the moves from a place offer: the key of the place where each leads, and its step. Inside the crate.
use Rattle.std.specs.Prelude.{◌≡◌, ◌≢◌, ℕ, ◌+◌, ◌<◌, ◌≤◌, ◌↔◌, List, length, slice_index}
use Rattle.run_pack.specs.Sets.{Has}
use Rattle.row_check.specs.Marking.{edges_of}
use Rattle.row_check.specs.Following.{step_numbered}

-- what the move with that number offers
abbrev pub offered : List ℕ → List ℕ → ℕ → ℕ
offered edges keys number = slice_index keys (slice_index edges number) + step_numbered number

-- neighbours that have keys, none of which is 0
pub record CanOffer (edges keys : List ℕ) : Type 0 where
  pub within : (number : ℕ) → number < 8 → slice_index edges number < length keys
  pub some : (number : ℕ) → number < 8 → 0 < slice_index keys (slice_index edges number)

-- a move offers less than the key
pub record IsOfferedLess (edges keys : List ℕ) (key : ℕ) : Type 0 where
  pub number : ℕ
  pub move : number < 8
  pub less : offered edges keys number < key

-- some move has less there than is wanted
pub record HasLess (there wanted : List ℕ) : Type 0 where
  pub number : ℕ
  pub move : number < 8
  pub less : slice_index there number < slice_index wanted number

-- of the moves with numbers below `upto` none offers less than the key, and the set has those that offer it
pub record IsSetBelow (edges keys : List ℕ) (key upto set : ℕ) : Type 0 where
  pub least : (number : ℕ) → number < upto → key ≤ offered edges keys number
  pub has : (number : ℕ) → number < 8 → Has set number ↔ (number < upto) × (offered edges keys number ≡ key)

-- so it is for all eight moves
abbrev pub IsSetOf : List ℕ → List ℕ → ℕ → ℕ → Type 0
IsSetOf edges keys key set = IsSetBelow edges keys key 8 set

-- all places can be offered keys
pub record CanAllOffer (near : List (List ℕ)) (keys : List ℕ) : Type 0 where
  pub whole : length keys ≡ length near + 1
  pub each : (place : ℕ) → place < length near → CanOffer (edges_of near place) keys

-- the sets of all places before `upto`
pub record AreSetsBelow (near : List (List ℕ)) (keys sets : List ℕ) (upto : ℕ) : Type 0 where
  pub whole : length sets ≡ length near
  pub bytes : (place : ℕ) → place < upto → slice_index sets place < 256
  pub each : (place : ℕ) → place < upto → IsSetOf (edges_of near place) keys (slice_index keys place) (slice_index sets place)

-- the sets of all places, and all moves at the target
pub record AreSets (near : List (List ℕ)) (target : ℕ) (keys sets : List ℕ) : Type 0 where
  pub whole : length sets ≡ length near
  pub bytes : (place : ℕ) → place < length near → slice_index sets place < 256
  pub own : slice_index sets target ≡ 255
  pub least : (place : ℕ) → place < length near → (number : ℕ) → number < 8
      → slice_index keys place ≤ offered (edges_of near place) keys number
  pub each : (place : ℕ) → place < length near → place ≢ target
      → IsSetOf (edges_of near place) keys (slice_index keys place) (slice_index sets place)

-- the first place where a move offers less
pub record IsFirstOfferedLess (near : List (List ℕ)) (keys : List ℕ) (place : ℕ) : Type 0 where
  pub within : place < length near
  pub less : IsOfferedLess (edges_of near place) keys (slice_index keys place)
  pub earlier : (other : ℕ) → other < place → (number : ℕ) → number < 8
      → slice_index keys other ≤ offered (edges_of near other) keys number
