-- Sets of moves: numbers below 256, in which bit i stands for the move with number i.
use Rattle.std.specs.Prelude.{◌≡◌, ℕ, ◌<◌, ◌≤◌, ◌⊎◌, ◌↔◌, IsBitSet}
use Rattle.moves.specs.declared.Move.{Move}
use Rattle.moves.specs.Moves.{number_of}

-- the move is in the set
unfoldable pub Has : ℕ → Move → Type 0
Has set move = IsBitSet set (number_of move)

-- the set is empty
abbrev pub IsEmpty : ℕ → Type 0
IsEmpty set = (move : Move) → Has set move → ⊥

-- each move is in the set
abbrev pub HasAll : ℕ → Type 0
HasAll set = (move : Move) → Has set move

-- the set has the moves that are in both sets
abbrev pub IsMeet : ℕ → ℕ → ℕ → Type 0
IsMeet set a b = (move : Move) → Has set move ↔ (Has a move × Has b move)

-- the set has the moves that are in either set
abbrev pub IsJoin : ℕ → ℕ → ℕ → Type 0
IsJoin set a b = (move : Move) → Has set move ↔ (Has a move ⊎ Has b move)

-- the set has the moves of the other set and that move
abbrev pub IsWith : ℕ → ℕ → Move → Type 0
IsWith set other m = (move : Move) → Has set move ↔ (Has other move ⊎ (move ≡ m))

-- the move is in the set, and none with a lower number is
pub record IsLeastIn (set : ℕ) (move : Move) : Type 0 where
  pub has : Has set move
  pub first : (other : Move) → Has set other → number_of move ≤ number_of other

-- two sets with the same moves are equal
abbrev pub SetsAreTheirMoves : Type 0
SetsAreTheirMoves = (a b : ℕ) → a < 256 → b < 256 → ((move : Move) → Has a move ↔ Has b move) → a ≡ b
