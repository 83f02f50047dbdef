-- A room of words, whose front is written.
use Rattle.std.specs.Prelude.{◌≡◌, ℕ, ◌≤◌, List, ◌++◌, length, drop}

-- these words stand at the front of the room, if they fit into it, and what lies behind is as it was before
pub record HasFront (before room front : List ℕ) : Type 0 where
  pub long : length room ≡ length before
  pub there : length front ≤ length before → room ≡ front ++ drop (length front) before

-- whatever stood at the front up to that place, these words stand behind it now
abbrev pub GrowsFront : ℕ → List ℕ → List ℕ → List ℕ → Type 0
GrowsFront at old new words =
    (before front : List ℕ) → length front ≡ at → HasFront before old front → HasFront before new (front ++ words)
