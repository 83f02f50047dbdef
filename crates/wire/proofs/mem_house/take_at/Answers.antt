use Rattle.std.proofs.Common.{◌≡◌, ℕ, ◌<◌, ◌==◌, length, sym, subst}
use Rattle.std.specs.List.{position_or_len}
use Rattle.wire.specs.DoorInMemory.{DoorInMemory}
use Rattle.wire.specs.HouseInMemory.{IsNewDoor, doors_at}
use Rattle.wire.proofs.Selecting.{also, is_at, place_of_first, taken, in_front, one_gone}
use Rattle.wire.proofs.mem_house.take_at.Goals as goal

-- the place is that of the first door
place : (c : goal.After-remove)
    → (c.unwrap_or-place.result ≡ position_or_len (is_at c.args.port) c.args.doors.now.items)
    × (c.unwrap_or-place.result < length c.args.doors.now.items)
place c =
    place_of_first c.args.port c.args.doors.now.items c.deref.result.now c.place_at.result c.unwrap_or-place.result
    c.requires.there c.deref.ensures.value c.place_at.ensures c.unwrap_or-place.ensures

-- the door stands in front of what is left
left : (c : goal.After-remove) → (other : ℕ)
    → doors_at other c.args.doors.now.items
    ≡ also (other == c.args.port) c.remove.result.1 (doors_at other c.remove.new.self.items)
left c =
    taken c.args.port c.args.doors.now.items c.remove.new.self.items c.unwrap_or-place.result c.remove.result
    (place c) c.remove.ensures.value c.remove.ensures.items

pub returns-clause-first : goal.returns-clause-first
returns-clause-first c = in_front c.args.port c.remove.result.1 _ _ (left c)

pub returns-clause-gone : goal.returns-clause-gone
returns-clause-gone c = one_gone c.args.port c.remove.result.1 _ _ (left c)

pub returns-clause-new : goal.returns-clause-new
returns-clause-new c =
    subst (λ (door : ℕ × DoorInMemory). IsNewDoor door.1) (sym c.remove.ensures.value) (c.requires.made _ c.remove.result (place c).1)
