-- What a house keeps of its doors and links, and of the requests to it.
use Rattle.std.specs.Prelude.{ℕ, ◌≡◌, ◌≢◌, ◌+◌, ◌<◌, ◌≤◌, List, [], ◌∷◌, ◌++◌, length, All, Bool, false, ◌==◌, not, cond, Option, Some, None, option_map, IfSome, IsSome}
use Rattle.std.specs.List.{list_any}
use Rattle.wire.specs.Causes.{one_more, Rose}
use Rattle.wire.specs.Knocks.{AtDoor}
use Rattle.wire.specs.Talks.{AtLink}
use Rattle.wire.specs.declared.house.DoorsAsked.{DoorsAsked}

-- a link that was handed back, and the port that was called for it
pub record LinkBack (C : Type 0) : Type 0 where
  pub port : Option ℕ
  pub link : C

-- the link with its port, from the pair of both
abbrev pub link_back : {C : Type 0} → Option ℕ × C → LinkBack C
link_back back = record { port = back.0; link = back.1 }

-- how many doors and links a house gave, and those handed back, in order
pub record Lendings (D C : Type 0) : Type 0 where
  pub doors_given : ℕ
  pub doors_back : List D
  pub links_given : ℕ
  pub links_back : List (LinkBack C)

-- nothing has been given yet
abbrev pub no_lendings : {D C : Type 0} → Lendings D C
no_lendings = record { doors_given = 0; doors_back = []; links_given = 0; links_back = [] }

module _ {D C : Type 0} where
  -- after this many more doors were given
  abbrev pub with_doors_given : Option (Lendings D C) → ℕ → Option (Lendings D C)
  with_doors_given told count = option_map
      (λ (lent : Lendings D C). record lent { doors_given = lent.doors_given + count }) told

  -- after these doors were handed back
  abbrev pub with_doors_back : Option (Lendings D C) → List D → Option (Lendings D C)
  with_doors_back told doors = option_map
      (λ (lent : Lendings D C). record lent { doors_back = lent.doors_back ++ doors }) told

  -- after one more link was given
  abbrev pub with_link_given : Option (Lendings D C) → Option (Lendings D C)
  with_link_given told = option_map
      (λ (lent : Lendings D C). record lent { links_given = lent.links_given + 1 }) told

  -- after this link, from a call to this port, was handed back
  abbrev pub with_link_back : Option (Lendings D C) → Option ℕ → C → Option (Lendings D C)
  with_link_back told port link = option_map
      (λ (lent : Lendings D C). record lent {
        links_back = lent.links_back ++ record { port = port; link = link } ∷ [];
      }) told

  -- this many doors can be handed back: no more than it gave
  abbrev pub HasLentDoors : Option (Lendings D C) → ℕ → Type 0
  HasLentDoors told count =
      IfSome told (λ lent. length lent.doors_back + count ≤ lent.doors_given)

  -- a link can be handed back: fewer were handed back than it gave
  abbrev pub HasLentLink : Option (Lendings D C) → Type 0
  HasLentLink told = IfSome told (λ lent. length lent.links_back < lent.links_given)

  -- a house that tells its doors gives doors that tell their port
  abbrev pub TellsPort : Option (Lendings D C) → AtDoor → ℕ → Type 0
  TellsPort told door port = IfSome told (λ _. door.port ≡ Some port)

  -- a house that tells its links gives links that tell their talk
  abbrev pub TellsTalk : Option (Lendings D C) → AtLink → Type 0
  TellsTalk told link = IfSome told (λ _. IsSome link.talk)

-- a door that nobody has knocked at: no knock has failed, none has answered Closed, and if it tells
-- its talks, it has none
pub record IsUnknocked (door : AtDoor) : Type 0 where
  pub no_fault : door.faults ≡ 0
  pub no_talk : IfSome door.talks (λ told. told ≡ [])
  pub unclosed : door.closed ≡ false

-- no doors were requested at this port
abbrev pub IsNewPort : List DoorsAsked → ℕ → Type 0
IsNewPort asked port = All (λ request. request.port ≢ port) asked

-- a count, or one more if what it counts happened
abbrev pub count_if : Bool → ℕ → ℕ
count_if came count = cond came (one_more count) count

-- whether one of these counts is above 0
abbrev pub rose_once : {D : Type 0} → (D → ℕ) → List D → Bool
rose_once faults doors = list_any (λ door. not (faults door == 0)) doors

-- what is known of a house: the requests for doors, in order, the port that it called, if it did,
-- what it gave and what was handed back, if it tells it, how often `doors` failed or doors were
-- handed back of which one had failed, how often `call` failed or a link was handed back that had
-- failed to receive, and how often one was that had failed to send
pub record AtHouse (D C : Type 0) : Type 0 where
  pub asked : List DoorsAsked
  pub called : Option ℕ
  pub lent : Option (Lendings D C)
  pub door_faults : ℕ
  pub read_faults : ℕ
  pub write_faults : ℕ

-- a house that does not tell what it gave
abbrev pub untold_house : {D C : Type 0} → List DoorsAsked → Option ℕ → ℕ → ℕ → ℕ → AtHouse D C
untold_house asked called door_faults read_faults write_faults = record {
  asked = asked;
  called = called;
  lent = None;
  door_faults = door_faults;
  read_faults = read_faults;
  write_faults = write_faults;
}

module _ {D C : Type 0} where
  -- after a request for this many doors at this port
  abbrev pub with_asked : AtHouse D C → ℕ → ℕ → AtHouse D C
  with_asked house port count =
      record house { asked = house.asked ++ record { port = port; count = count } ∷ [] }

  -- after a request for this many doors at this port that gave them
  abbrev pub with_doors_lent : AtHouse D C → ℕ → ℕ → AtHouse D C
  with_doors_lent house port count = record house {
    asked = house.asked ++ record { port = port; count = count } ∷ [];
    lent = with_doors_given house.lent count;
  }

  -- a request for doors that gives none: it is recorded, and faults of doors may have been counted
  pub record GivesNone (old : AtHouse D C) (port count : ℕ) (new : AtHouse D C) : Type 0 where
    pub later : old.door_faults ≤ new.door_faults
    pub rest : new ≡ record (with_asked old port count) { door_faults = new.door_faults }

  -- after a call to this port that gave a link
  abbrev pub with_called : AtHouse D C → ℕ → AtHouse D C
  with_called house port =
      record house { called = Some port; lent = with_link_given house.lent }

  -- a call to this port that gives no link: faults of reading were counted
  pub record FailsToCall (old : AtHouse D C) (port : ℕ) (new : AtHouse D C) : Type 0 where
    pub rose : Rose old.read_faults new.read_faults
    pub later : old.read_faults ≤ new.read_faults
    pub rest : new ≡ record old { called = Some port; read_faults = new.read_faults }

  -- after these doors were handed back, with what is known of each
  abbrev pub with_doors_shut : (D → AtDoor) → AtHouse D C → List D → AtHouse D C
  with_doors_shut at house doors = record house {
    lent = with_doors_back house.lent doors;
    door_faults = count_if (rose_once (λ door. (at door).faults) doors) house.door_faults;
  }

  -- after this link was handed back, with what is known of it
  abbrev pub with_hung_up : (C → AtLink) → AtHouse D C → C → AtHouse D C
  with_hung_up at house link = record house {
    lent = with_link_back house.lent house.called link;
    read_faults = count_if (not ((at link).read_faults == 0)) house.read_faults;
    write_faults = count_if (not ((at link).write_faults == 0)) house.write_faults;
  }

  -- between the two only doors were requested
  pub record OnlyDoors (old new : AtHouse D C) : Type 0 where
    pub called : new.called ≡ old.called
    pub reads : new.read_faults ≡ old.read_faults
    pub writes : new.write_faults ≡ old.write_faults

  -- between the two only a call was made
  pub record OnlyCalls (old new : AtHouse D C) : Type 0 where
    pub asked : new.asked ≡ old.asked
    pub door_faults : new.door_faults ≡ old.door_faults
