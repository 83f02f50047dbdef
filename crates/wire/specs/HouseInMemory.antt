-- Houses in memory, as contracts see them, and what a call does to one.
use Rattle.std.specs.Prelude.{ℕ, ◌≡◌, ◌+◌, List, [], ◌∷◌, ◌++◌, take, drop, map, filter, All, Bool, false, ◌==◌, ◌||◌, not, cond, nat_lt, Option, Some, None, count_by}
use Rattle.std.specs.List.{list_any}
use Rattle.wire.specs.Causes.{one_more}
use Rattle.wire.specs.DoorInMemory.{DoorInMemory, new_door, at_port, AreNewLinks, IsNewLink}
use Rattle.wire.specs.LinkInMemory.{LinkInMemory}
use Rattle.wire.specs.Houses.{AtHouse, Lendings, no_lendings, count_if, rose_once}
use Rattle.wire.specs.declared.house.DoorsAsked.{DoorsAsked}

-- the doors that it will give and the link, each with its port, the numbers of the calls that fail
-- (the first is 1), how many calls of `doors` and `call` there were, the requests, what was given
-- and handed back, and the fault counts
pub record HouseInMemory : Type 0 where
  pub doors : List (ℕ × DoorInMemory)
  pub link : Option (ℕ × LinkInMemory)
  pub fails : List ℕ
  pub calls : ℕ
  pub asked : List DoorsAsked
  pub called : Option ℕ
  pub lent : Lendings DoorInMemory LinkInMemory
  pub door_faults : ℕ
  pub read_faults : ℕ
  pub write_faults : ℕ

-- a house that has not been asked for anything
abbrev pub new_house : List (ℕ × DoorInMemory) → Option (ℕ × LinkInMemory) → List ℕ → HouseInMemory
new_house doors link fails = record {
  doors = doors;
  link = link;
  fails = fails;
  calls = 0;
  asked = [];
  called = None;
  lent = no_lendings;
  door_faults = 0;
  read_faults = 0;
  write_faults = 0;
}

-- a door as it was made: nobody has knocked at it
abbrev pub IsNewDoor : DoorInMemory → Type 0
IsNewDoor door =
    (door ≡ new_door door.waiting door.quiet door.fails) × AreNewLinks door.waiting

-- a door as a house gives it at this port: nobody has knocked at it yet
abbrev pub IsGivenDoor : ℕ → DoorInMemory → Type 0
IsGivenDoor port door = door ≡ at_port (new_door door.waiting door.quiet door.fails) port

-- doors as they were made
abbrev pub AreNewDoors : List (ℕ × DoorInMemory) → Type 0
AreNewDoors doors = All (λ door. IsNewDoor door.1) doors

-- doors as a house gives them at this port
abbrev pub AreGivenDoors : ℕ → List DoorInMemory → Type 0
AreGivenDoors port doors = All (IsGivenDoor port) doors

-- a link as it was made, if there is one
abbrev pub IsNewLinkAt : Option (ℕ × LinkInMemory) → Type 0
IsNewLinkAt None = Unit {0}
IsNewLinkAt (Some link) = IsNewLink link.1

-- the doors at this port
abbrev pub doors_at : ℕ → List (ℕ × DoorInMemory) → List DoorInMemory
doors_at port doors = map (λ door. door.1) (filter (λ door. door.0 == port) doors)

-- how many doors are at this port
abbrev pub count_at : ℕ → List (ℕ × DoorInMemory) → ℕ
count_at port doors = count_by (λ door. door.0 == port) doors

-- this many doors at this port, the first ones, as they are given
abbrev pub first_at : ℕ → ℕ → List (ℕ × DoorInMemory) → List DoorInMemory
first_at port count doors = map (λ door. at_port door port) (take count (doors_at port doors))

-- this many doors at this port are gone, the first ones, and no others
abbrev pub AreGone : ℕ → ℕ → List (ℕ × DoorInMemory) → List (ℕ × DoorInMemory) → Type 0
AreGone port count before after = (other : ℕ)
    → doors_at other after ≡ drop (cond (other == port) count 0) (doors_at other before)

-- whether the link is at this port
abbrev pub is_link_at : Option (ℕ × LinkInMemory) → ℕ → Bool
is_link_at None port = false
is_link_at (Some link) port = link.0 == port

-- whether the next call is planned to fail
abbrev pub is_next_planned : HouseInMemory → Bool
is_next_planned house = list_any (λ call. call == one_more house.calls) house.fails

-- whether a request for this many doors at this port is refused: that is planned, or there are too few
abbrev pub doors_fail : HouseInMemory → ℕ → ℕ → Bool
doors_fail house port count =
    is_next_planned house || nat_lt (count_at port house.doors) count

-- whether a call to this port is refused: that is planned, or there is no link
abbrev pub call_fails : HouseInMemory → ℕ → Bool
call_fails house port = is_next_planned house || not (is_link_at house.link port)

-- the house after a request for this many doors at this port that gave none
abbrev pub with_asked : HouseInMemory → ℕ → ℕ → HouseInMemory
with_asked house port count = record house {
  calls = one_more house.calls;
  asked = house.asked ++ record { port = port; count = count } ∷ [];
}

-- the house after a request for doors that fails
abbrev pub with_doors_fault : HouseInMemory → ℕ → ℕ → HouseInMemory
with_doors_fault house port count =
    record (with_asked house port count) { door_faults = one_more house.door_faults }

-- the house after it gave this many doors at this port, with these doors left
abbrev pub with_doors : HouseInMemory → ℕ → ℕ → List (ℕ × DoorInMemory) → HouseInMemory
with_doors house port count doors = record (with_asked house port count) {
  doors = doors;
  lent = record house.lent { doors_given = house.lent.doors_given + count };
}

-- the house after a call to this port that gives the link
abbrev pub with_call : HouseInMemory → ℕ → HouseInMemory
with_call house port = record house {
  link = None;
  calls = one_more house.calls;
  called = Some port;
  lent = record house.lent { links_given = house.lent.links_given + 1 };
}

-- the house after a call to this port that fails
abbrev pub with_call_fault : HouseInMemory → ℕ → HouseInMemory
with_call_fault house port = record house {
  calls = one_more house.calls;
  called = Some port;
  read_faults = one_more house.read_faults;
}

-- the house after these doors were handed back
abbrev pub with_shut : HouseInMemory → List DoorInMemory → HouseInMemory
with_shut house doors = record house {
  lent = record house.lent { doors_back = house.lent.doors_back ++ doors };
  door_faults = count_if (rose_once (λ door. door.faults) doors) house.door_faults;
}

-- the house after this link was handed back
abbrev pub with_hung_up : HouseInMemory → LinkInMemory → HouseInMemory
with_hung_up house link = record house {
  lent = record house.lent {
    links_back = house.lent.links_back ++ record { port = house.called; link = link } ∷ [];
  };
  read_faults = count_if (not (link.faults == 0)) house.read_faults;
  write_faults = count_if (not (link.output.faults == 0)) house.write_faults;
}

-- a house in memory tells everything
abbrev pub house_told : HouseInMemory → AtHouse DoorInMemory LinkInMemory
house_told house = record {
  asked = house.asked;
  called = house.called;
  lent = Some house.lent;
  door_faults = house.door_faults;
  read_faults = house.read_faults;
  write_faults = house.write_faults;
}
