-- A follower, and what becomes of it by the bytes of a stream, one after the other. So it is the same however they are cut
-- into pieces.
use Rattle.std.specs.Prelude.{◌≡◌, ◌⊎◌, ℕ, ◌+◌, ◌-◌, ◌^◌, ◌<◌, ◌≤◌, Option, Some, None, MatchOption, List, [], ◌∷◌, ◌++◌, length, drop, min}
use Rattle.byteorder.specs.Endian.{big_number}
use Rattle.cell_order.specs.declared.OrderKind.{OrderKind}
use Rattle.path_core.specs.Histories.{accepted_count}
use Rattle.follow_proto.specs.declared.TheConstants.{MAX_FRAME}
use Rattle.follow_node.specs.declared.faults.FollowFault.{FollowFault}
use Rattle.follow_node.specs.declared.faults.FollowFault.TheVariants as fault
use Rattle.follow_node.specs.Following.{Followed, HaltsBoard, Judges}

-- A follower as its callers see it: the order of its versions, its board, the bytes of the message that was begun and the
-- place in the stream at which it begins, and why it follows no further.
pub record Following : Type 0 where
  pub order : OrderKind
  pub board : Option Followed
  pub held : List ℕ
  pub at : ℕ
  pub fault : Option FollowFault

-- a follower that has taken nothing
abbrev pub new_following : OrderKind → Following
new_following order = record { order = order; board = None; held = []; at = 0; fault = None }

-- how many edits were accepted, and 0 before the map came
abbrev pub accepted_of : Option Followed → ℕ
accepted_of None = 0
accepted_of (Some board) = accepted_count board.history

-- the length of the frame, as the first four bytes of a message say it
abbrev pub size_said : List ℕ → ℕ
size_said held = big_number 4 held

-- a message was begun whose frame is not too long, as far as is known, and it is not whole
abbrev pub IsBegun : List ℕ → Type 0
IsBegun held = (length held < 4) ⊎ ((size_said held ≤ MAX_FRAME) × (length held < 4 + size_said held))

-- its length is known, and is that of no message
pub record IsTooLong (held : List ℕ) : Type 0 where
  pub told : 4 ≤ length held
  pub long : MAX_FRAME < size_said held

-- its length is known, and so many bytes have come
pub record IsWhole (held : List ℕ) : Type 0 where
  pub told : 4 ≤ length held
  pub short : size_said held ≤ MAX_FRAME
  pub all : 4 + size_said held ≤ length held

-- a place of the stream, counted as far as a number of 64 bits goes
abbrev pub place_behind : ℕ → ℕ → ℕ
place_behind at count = min (at + count) (2 ^ 64 - 1)

-- a whole message was judged
pub record EndsMessage (before : Following) (held : List ℕ) (after : Following) : Type 0 where
  pub order : after.order ≡ before.order
  pub held_is : after.held ≡ []
  pub at : after.at ≡ place_behind before.at (length held)
  pub judged : Judges before.order before.board (drop 4 held) before.at after.fault after.board

-- the follower after one byte more, by what has come of the message then
pub record Takes (before : Following) (byte : ℕ) (after : Following) : Type 0 where
  pub begun : IsBegun (before.held ++ byte ∷ []) → after ≡ record before { held = before.held ++ byte ∷ [] }
  pub too_long : IsTooLong (before.held ++ byte ∷ [])
      → after ≡ record before { held = before.held ++ byte ∷ []; fault = Some (fault.Bad before.at) }
  pub whole : IsWhole (before.held ++ byte ∷ []) → EndsMessage before (before.held ++ byte ∷ []) after

-- behind a fault nothing is judged
abbrev pub TakesNext : Following → ℕ → Following → Type 0
TakesNext before byte after = MatchOption before.fault (Takes before byte after) (λ _. after ≡ before)

-- the follower after these bytes more
abbrev pub Took : Following → List ℕ → Following → Type 0
Took before [] after = after ≡ before
Took before (byte ∷ bytes) after = (mid : Following) × TakesNext before byte mid × Took mid bytes after

-- memory ran out at one byte more: no version was published, and some first edits of a message were accepted
pub record RunsShort (before : Following) (byte : ℕ) (after : Following) : Type 0 where
  pub order : after.order ≡ before.order
  pub fault_is : after.fault ≡ Some fault.NoMemory
  pub board : HaltsBoard before.board (drop 4 (before.held ++ byte ∷ [])) after.board

-- memory ran out at one of these bytes
pub record StopsShort (before : Following) (bytes : List ℕ) (after : Following) : Type 0 where
  pub front : List ℕ
  pub byte : ℕ
  pub rest : List ℕ
  pub bytes_are : bytes ≡ front ++ byte ∷ rest
  pub mid : Following
  pub took : Took before front mid
  pub unfaulted : mid.fault ≡ None
  pub short : RunsShort mid byte after
