-- What a watch over messages keeps of the bytes that it has followed.
use Rattle.std.specs.Prelude.{◌≡◌, ◌+◌, ◌<◌, ◌/◌, ◌%◌, ◌^◌, ℕ, List, [], ◌∷◌, Some, IsTrue, ◌↔◌, length}
use Rattle.wire.specs.Messages.{AreCut, last_of}
use Rattle.wire.specs.declared.frame_watch.FrameWatch.{FrameWatch}
use Rattle.wire.specs.declared.frame_watch.Place.{Place}
use Rattle.wire.specs.declared.frame_watch.Place.TheVariants.{Between, Length, Inside}
use Rattle.wire.specs.declared.frame_watch.Spoken.{Spoken}
use Rattle.wire.specs.declared.frame_watch.Spoken.TheVariants.{Frames, Asks}
use Rattle.wire.specs.declared.patience.Awaited.{Awaited}
use Rattle.wire.specs.declared.patience.Awaited.TheVariants.{Frame, Ask}

-- these bytes begin a message of this size, of which this many bytes are missing
abbrev pub IsInside : Spoken → List ℕ → ℕ → ℕ → Type 0
IsInside Frames bytes size left = (part : List ℕ)
    × (bytes ≡ size / 256 ∷ size % 256 ∷ part) × (length part + left ≡ size) × (size < 2 ^ 16)
IsInside (Asks all) bytes size left = (length bytes + left ≡ size) × (size ≡ all)

-- the position after these bytes, which follow the last whole message
abbrev pub IsPlaceOf : Spoken → List ℕ → Place → Type 0
IsPlaceOf spoken bytes Between = bytes ≡ []
IsPlaceOf spoken bytes (Length high) = (bytes ≡ high ∷ []) × (spoken ≡ Frames)
IsPlaceOf spoken bytes (Inside size left) = IsInside spoken bytes size left × (0 < left) × (0 < length bytes)

-- All these bytes were followed: the position is that of the rest after the last whole message, and it is known whether
-- that message is a Stop.
pub record HasFollowed (watch : FrameWatch) (bytes : List ℕ) : Type 0 where
  pub messages : List (List ℕ)
  pub rest : List ℕ
  pub cut : AreCut watch.spoken bytes messages rest
  pub place : IsPlaceOf watch.spoken rest watch.place
  pub stop : IsTrue watch.stop ↔ (last_of messages ≡ Some (watch.speech.stop ∷ []))

-- what is waited for after whole messages
abbrev pub first_awaited : Spoken → Awaited
first_awaited Frames = Frame
first_awaited (Asks size) = Ask
