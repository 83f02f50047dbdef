-- Doors at a port among others: the first one, and what is left without it.
use Rattle.std.proofs.Common.{◌≡◌, ℕ, suc, ◌+◌, ◌-◌, ◌<◌, ◌≤◌, ◌==◌, ◌&&◌, List, [], ◌∷◌, ◌++◌, length, get_or, take, drop, remove, map, filter, position, unwrap_or, Option, Bool, true, false, cond, nat_lt, inl, inr, refl, sym, ap, subst, ◌∙◌, arith}
use Rattle.std.specs.List.{position_or_len}
use Rattle.std.proofs.lemmas.Bool.{cases_Bool, false≢true}
use Rattle.std.proofs.lemmas.Bool.Decides.{nat_tests}
use Rattle.std.proofs.lemmas.List.{map-append, length-map, length-drop}
use Rattle.std.proofs.lemmas.List.Sums.{length-filter}
use Rattle.std.proofs.Math.Seq.{take-add, drop-drop}
use Rattle.wire.specs.DoorInMemory.{DoorInMemory, at_port}
use Rattle.wire.specs.HouseInMemory.{AreGone, IsGivenDoor, IsNewDoor, count_at, doors_at, first_at}

-- whether a door is at this port
abbrev pub is_at : ℕ → ℕ × DoorInMemory → Bool
is_at port door = door.0 == port

-- the doors at a port are as many as are counted
pub how_many : (port : ℕ) (doors : List (ℕ × DoorInMemory)) → length (doors_at port doors) ≡ count_at port doors
how_many port doors =
    length-map (filter (is_at port) doors) (λ door. door.1) ∙ length-filter (is_at port) doors

-- a door in front of these, where it is one of them
abbrev pub also : Bool → DoorInMemory → List DoorInMemory → List DoorInMemory
also here door doors = cond here (door ∷ doors) doors

-- one door more in front
pushed : (here : Bool) (door : ℕ × DoorInMemory) (doors : List (ℕ × DoorInMemory))
    → map (λ one. one.1) (cond here (door ∷ doors) doors)
    ≡ also here door.1 (map (λ one. one.1) doors)
pushed true door doors = refl
pushed false door doors = refl

-- two doors in front that are not at one port may change places
swapped : (one other : Bool) (first second : DoorInMemory) (rest : List DoorInMemory)
    → (one && other) ≡ false → also one first (also other second rest) ≡ also other second (also one first rest)
swapped true true first second rest apart = absurd (false≢true (sym apart))
swapped true false first second rest apart = refl
swapped false true first second rest apart = refl
swapped false false first second rest apart = refl

module _ (port : ℕ) where
  -- at a port stand the door at this place, where the port is its own, and those that are left without it
  abbrev FrontOf : ℕ → List (ℕ × DoorInMemory) → ℕ → ℕ × DoorInMemory → Type 0
  FrontOf other doors place d =
      doors_at other doors ≡ also (other == port) (get_or doors place d).1 (doors_at other (remove doors place))

  -- the first door at a port stands in front of those that are left there, and at no other port
  first_of : (other : ℕ) (doors : List (ℕ × DoorInMemory)) (d : ℕ × DoorInMemory)
      → position_or_len (is_at port) doors < length doors
      → FrontOf other doors (position_or_len (is_at port) doors) d
  first_of other [] d within = absurd (omega (arith, within))
  first_of other (door ∷ doors) d within = elim (cases_Bool (door.0 == port)) [
    | inl here ↦
        let same : (door.0 == other) ≡ (other == port) = grind (arith, nat_tests) in
        rw here (pushed (door.0 == other) door (filter (is_at other) doors)
        ∙ ap (λ (b : Bool). also b door.1 (doors_at other doors)) same)
    | inr apart ↦
        let differ : ((door.0 == other) && (other == port)) ≡ false = grind (arith, nat_tests) in
        let rest = first_of other doors d (omega (arith, rw apart at within)) in
        let place : ℕ = position_or_len (is_at port) doors in
        let step : suc place ≡ 1 + place = omega arith in
        rw apart (subst (λ (n : ℕ). FrontOf other (door ∷ doors) n d) step
        (pushed (door.0 == other) door (filter (is_at other) doors)
        ∙ ap (λ (left : List DoorInMemory). also (door.0 == other) door.1 left) rest
        ∙ swapped (door.0 == other) (other == port) door.1 _ _ differ
        ∙ ap (λ (left : List DoorInMemory). also (other == port) (get_or doors place d).1 left)
        (sym (pushed (door.0 == other) door (filter (is_at other) (remove doors place))))))
  ]

  -- where a door is at a port, the first one is found
  there : (doors : List (ℕ × DoorInMemory)) → 0 < length (filter (is_at port) doors) → position_or_len (is_at port) doors < length doors
  there [] some = absurd (omega (arith, some))
  there (door ∷ doors) some = elim (cases_Bool (door.0 == port)) [
    | inl here ↦ rw here (omega arith)
    | inr apart ↦ let rest = there doors (rw apart at some) in rw apart (omega (arith, rest))
  ]

  -- the place of the first door, as the code finds it
  pub place_of_first : (doors shown : List (ℕ × DoorInMemory)) (found : Option ℕ) (place : ℕ)
      → 0 < count_at port doors → shown ≡ doors → found ≡ position (is_at port) shown → place ≡ unwrap_or found 0
      → (place ≡ position_or_len (is_at port) doors) × (place < length doors)
  place_of_first doors shown found place some same is named =
      let within = there doors (omega (arith, length-filter (is_at port) doors, some)) in
      let tested : nat_lt (position_or_len (is_at port) doors) (length doors) ≡ true = grind (arith, nat_tests) in
      let at_place : place ≡ position_or_len (is_at port) doors = named ∙ rw (is, same, tested) refl in
      (at_place, omega (arith, at_place, within))

  -- what taking a door leaves, as the code takes it
  pub taken : (doors left : List (ℕ × DoorInMemory)) (place : ℕ) (door : ℕ × DoorInMemory)
      → (place ≡ position_or_len (is_at port) doors) × (place < length doors)
      → door ≡ get_or doors place door → left ≡ remove doors place
      → (other : ℕ) → doors_at other doors ≡ also (other == port) door.1 (doors_at other left)
  taken doors left place door (is, within) read removed other =
      let whole = first_of other doors door (omega (arith, is, within)) in
      rw (removed, read, is) whole

  module _ (door : DoorInMemory) (before after : List (ℕ × DoorInMemory))
      (left : (other : ℕ) → doors_at other before ≡ also (other == port) door (doors_at other after)) where
    pub in_front : doors_at port before ≡ door ∷ doors_at port after
    in_front =
        let same : (port == port) ≡ true = grind (arith, nat_tests) in
        left port ∙ ap (λ (b : Bool). also b door (doors_at port after)) same

    chosen : (other : ℕ) (b : Bool) → (other == port) ≡ b
        → also (other == port) door (doors_at other after) ≡ also b door (doors_at other after)
    chosen other b e = ap (λ (b : Bool). also b door (doors_at other after)) e

    pub one_gone : AreGone port 1 before after
    one_gone other = elim (cases_Bool (other == port)) [
      | inl same ↦
          let front : doors_at other before ≡ door ∷ doors_at other after = left other ∙ chosen other true same in
          rw same (sym (ap (drop 1) front))
      | inr apart ↦
          let whole : doors_at other before ≡ doors_at other after = left other ∙ chosen other false apart in
          rw apart (sym whole)
    ]

  -- what is gone, where it is known whether the port is this one
  gone_where : (other count : ℕ) (before : List (ℕ × DoorInMemory)) (b : Bool) → (other == port) ≡ b
      → drop (cond (other == port) count 0) (doors_at other before) ≡ drop (cond b count 0) (doors_at other before)
  gone_where other count before b e =
      ap (λ (b : Bool). drop (cond b count 0) (doors_at other before)) e

  -- none is gone yet
  pub none_gone : (doors : List (ℕ × DoorInMemory)) → AreGone port 0 doors doors
  none_gone doors other = elim (cases_Bool (other == port)) [
    | inl same ↦ rw same refl
    | inr apart ↦ rw apart refl
  ]

  -- one door more is gone
  pub more_gone : (count : ℕ) (before between after : List (ℕ × DoorInMemory))
      → AreGone port count before between → AreGone port 1 between after → AreGone port (count + 1) before after
  more_gone count before between after first second other = elim (cases_Bool (other == port)) [
    | inl same ↦
        let one : doors_at other between ≡ drop count (doors_at other before) = first other ∙ gone_where other count before true same in
        let two : doors_at other after ≡ drop 1 (doors_at other between) = second other ∙ gone_where other 1 between true same in
        rw same (two ∙ ap (drop 1) one ∙ drop-drop 1 count (doors_at other before))
    | inr apart ↦
        let one : doors_at other between ≡ doors_at other before = first other ∙ gone_where other count before false apart in
        let two : doors_at other after ≡ doors_at other between = second other ∙ gone_where other 1 between false apart in
        rw apart (two ∙ one)
  ]

  -- one door more is given
  pub more_given : (count : ℕ) (before between : List (ℕ × DoorInMemory)) (door : DoorInMemory)
      (rest : List DoorInMemory) → AreGone port count before between → doors_at port between ≡ door ∷ rest
      → first_at port (count + 1) before ≡ first_at port count before ++ at_port door port ∷ []
  more_given count before between door rest gone front =
      let same : (port == port) ≡ true = grind (arith, nat_tests) in
      let next : drop count (doors_at port before) ≡ door ∷ rest =
      sym (gone port ∙ gone_where port count before true same) ∙ front in
      ap (map (λ one. at_port one port)) (take-add count 1 (doors_at port before)
      ∙ ap (λ (ds : List DoorInMemory). take count (doors_at port before) ++ take 1 ds) next)
      ∙ map-append (λ one. at_port one port) (take count (doors_at port before)) (door ∷ [])

  -- where fewer doors are given than are there, one is left
  pub one_left : (count most : ℕ) (before between : List (ℕ × DoorInMemory)) → AreGone port count before between → count < most → most ≤ count_at port before → 0 < count_at port between
  one_left count most before between gone few enough =
      let same : (port == port) ≡ true = grind (arith, nat_tests) in
      let left : length (doors_at port between) ≡ length (doors_at port before) - count =
      ap (λ (ds : List DoorInMemory). length ds) (gone port ∙ gone_where port count before true same) ∙ length-drop count (doors_at port before) in
      omega (arith, left, how_many port before, how_many port between)

  -- a door as it was made, opened at a port, is a door as it is given
  pub given_door : (door opened : DoorInMemory) → opened ≡ at_port door port → IsNewDoor door → IsGivenDoor port opened
  given_door door opened is new =
      subst (λ (one : DoorInMemory). IsGivenDoor port one) (sym is) (ap (λ (one : DoorInMemory). at_port one port) new.0)
