-- What a client sends over a link: messages, one after the other. In a session they are frames, and in a feed asks.
use Rattle.std.specs.Prelude.{◌≡◌, ◌<◌, ◌/◌, ◌%◌, ◌^◌, ℕ, List, [], ◌∷◌, ◌++◌, All, Option, Some, None, length}
use Rattle.std.specs.List.{flat_map}
use Rattle.wire.specs.declared.frame_watch.Spoken.{Spoken}
use Rattle.wire.specs.declared.frame_watch.Spoken.TheVariants.{Frames, Asks}

-- a message as it is sent: a frame after its length in two bytes, the higher one first, and an ask unchanged
abbrev pub sent : Spoken → List ℕ → List ℕ
sent Frames message = length message / 256 ∷ length message % 256 ∷ message
sent (Asks size) message = message

-- the length of a frame fits into two bytes, and all asks have the same size
abbrev pub HasSize : Spoken → List ℕ → Type 0
HasSize Frames message = length message < 2 ^ 16
HasSize (Asks size) message = length message ≡ size

-- these bytes do not begin with a whole message
abbrev pub HasNoWhole : Spoken → List ℕ → Type 0
HasNoWhole spoken bytes = (message after : List ℕ) → HasSize spoken message → bytes ≡ sent spoken message ++ after → ⊥

-- bytes are these whole messages, one after the other, and then a rest that does not begin with one
pub record AreCut (spoken : Spoken) (bytes : List ℕ) (messages : List (List ℕ)) (rest : List ℕ) : Type 0 where
  pub joined : bytes ≡ flat_map (sent spoken) messages ++ rest
  pub sizes : All (HasSize spoken) messages
  pub none : HasNoWhole spoken rest

-- bytes are a whole number of messages
abbrev pub AreWhole : Spoken → List ℕ → Type 0
AreWhole spoken bytes = (messages : List (List ℕ)) × AreCut spoken bytes messages []

-- the last of some messages, if there is one
abbrev pub last_of : List (List ℕ) → Option (List ℕ)
last_of [] = None
last_of (message ∷ []) = Some message
last_of (first ∷ second ∷ messages) = last_of (second ∷ messages)
