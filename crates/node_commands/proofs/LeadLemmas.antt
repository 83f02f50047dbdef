-- A board that is led: what has to hold before, and what a house keeps of two lists of doors.
use Rattle.std.proofs.Common.{◌≡◌, ℕ, ◌+◌, ◌≤◌, Bool, true, false, ◌||◌, List, [], ◌∷◌, ◌++◌, All, None, Option, Some, length, inl, inr, refl, sym, subst, ap, ◌∙◌, arith, length-append}
use Rattle.std.proofs.lemmas.List.{append_assoc}
use Rattle.std.proofs.lemmas.List.Elements.{All-head, All-push}
use Rattle.std.proofs.lemmas.List.Folds.{list_any-append}
use Rattle.wire.specs.Causes.{Rose}
use Rattle.wire.specs.Houses.{AtHouse, HasLentDoors, IsUnknocked, Lendings, count_if, rose_once, with_doors_back, with_doors_given, with_doors_lent}
use Rattle.wire.specs.Knocks.{AtDoor}
use Rattle.wire.specs.Rings.{AtEar}
use Rattle.wire.specs.declared.house.DoorsAsked.{DoorsAsked}
use Rattle.wire.specs.declared.house.HouseError.{HouseError}
use Rattle.wire.specs.declared.house.HouseError.TheVariants as refusal
use Rattle.moves.specs.Maps.{Map}
use Rattle.path_core.specs.Boards.{Boarded}
use Rattle.session.specs.Crews.{SomeRose}
use Rattle.path_commands.specs.declared.status.Status.{Status}
use Rattle.path_commands.specs.Requests.{AreDoors}
use Rattle.path_commands.specs.Serving.{IsDoorsCause, IsUnrung, PutsCause, RunEar, status_without_doors}
use Rattle.path_commands.specs.Asks.{RunHouse}
use Rattle.path_commands.specs.Words.{AreWorkers}
use Rattle.path_commands.proofs.ServingLemmas.{doors_cause, rose_found}
use Rattle.node_commands.specs.Leadings.{AreBothOpened, CanBeLed, IsRefused, LeadEnds, LeadsAt, feed_asked, with_both_given}

module _ {D C : Type 0} where
  -- those of the one list and then of the other are those of both
  pub back_both : (told : Option (Lendings D C)) (doors more : List D)
      → with_doors_back (with_doors_back told doors) more ≡ with_doors_back told (doors ++ more)
  back_both (Some lent) doors more = ap (λ (l : List D). Some (record lent { doors_back = l })) (append_assoc lent.doors_back doors more)
  back_both None doors more = refl

  -- behind the one list the other one is still lent
  pub lent_behind : (told : Option (Lendings D C)) (doors : List D) → HasLentDoors told (length doors + 1)
      → HasLentDoors (with_doors_back told doors) 1
  lent_behind (Some lent) doors few = omega (arith, few, length-append lent.doors_back doors)
  lent_behind None doors few = tt

  -- a house has lent what it gave, and no more is handed back
  pub lent_first : (told : Option (Lendings D C)) (count : ℕ) → HasLentDoors told 0 → HasLentDoors (with_doors_given told count) count
  lent_first (Some lent) count few = omega (arith, few)
  lent_first None count few = tt

  lent_both : (told : Option (Lendings D C)) (count some : ℕ) → some ≤ count + 1 → HasLentDoors told 0
      → HasLentDoors (with_doors_given (with_doors_given told count) 1) some
  lent_both (Some lent) count some within few = omega (arith, within, few)
  lent_both None count some within few = tt

  -- what has to hold before a board is led holds where the house gave what was asked for
  module _ (house : RunHouse D C) (asked : DoorsAsked) (feed_port : ℕ) (doors : List D) (feed : D) (opened : AreBothOpened house asked feed_port doors feed)
      (many : AreDoors asked.count) (lent : HasLentDoors house.before.lent 0) (now : AtHouse D C)
      (given : now ≡ with_doors_lent (with_doors_lent house.before asked.port asked.count) feed_port 1) where
    lent_so : (some : ℕ) → some ≤ asked.count + 1 → HasLentDoors now.lent some
    lent_so some within =
        subst (λ (at : AtHouse D C). HasLentDoors at.lent some) (sym given) (lent_both house.before.lent asked.count some within lent)

    pub can_be_led : (board : Boarded) (start : Map) (workers : ℕ) (ear : AtEar) → board.history ≡ [] → start ≡ board.start → AreWorkers workers → ear.over ≡ false
        → CanBeLed house.door board start doors feed workers now ear
    can_be_led board start workers ear unedited start_is hands waiting =
        let count = opened.opened.count in
        let some = many.some in
        let few = many.few in
        record {
          served = record {
            unedited = unedited;
            some = omega (arith, count, some);
            few = omega (arith, count, few);
            unknocked = opened.opened.unknocked;
            lent = lent_so (length doors) (omega (arith, count));
            hands = hands;
            waiting = waiting;
          };
          start_is = start_is;
          unknocked = All-head (λ door. IsUnknocked (house.door door)) feed [] opened.fed.unknocked;
          lent = lent_so (length doors + 1) (omega (arith, count));
        }

-- a count that is raised where either has come has risen where one of both came
rose_either : (one other : Bool) (past mid now : ℕ) → mid ≡ count_if one past → now ≡ count_if other mid → (one || other) ≡ true → Rose past now
rose_either true true past mid now e f some = omega (arith, e, f)
rose_either true false past mid now e f some = omega (arith, e, f)
rose_either false true past mid now e f some = omega (arith, e, f)
rose_either false false past mid now e f some = cc

-- where a count of a door is above 0, that of the house rises as the doors are handed back
pub rose_both : {D : Type 0} (faults : D → ℕ) (doors more : List D) (past mid now : ℕ) → mid ≡ count_if (rose_once faults doors) past
    → now ≡ count_if (rose_once faults more) mid → rose_once faults (doors ++ more) ≡ true → Rose past now
rose_both faults doors more past mid now e f some =
    rose_either (rose_once faults doors) (rose_once faults more) past mid now e f (sym (list_any-append _ doors more) ∙ some)

-- where a knock at one of the doors failed, and none had before, a count of them is above 0 in the end
pub led_rose : {D : Type 0} (at : D → AtDoor) (doors doors_after : List D) (feed feed_after : D)
    → length doors_after ≡ length doors → All (λ door. IsUnknocked (at door)) doors → IsUnknocked (at feed)
    → SomeRose at (doors ++ feed ∷ []) (doors_after ++ feed_after ∷ [])
    → rose_once (λ door. (at door).faults) (doors_after ++ feed_after ∷ []) ≡ true
led_rose at doors doors_after feed feed_after long none feed_none some =
    rose_found at (doors ++ feed ∷ []) (doors_after ++ feed_after ∷ [])
    (length-append doors_after (feed_after ∷ []) ∙ ap (λ n. n + 1) long ∙ sym (length-append doors (feed ∷ [])))
    (All-push (λ door. IsUnknocked (at door)) doors feed none feed_none) some

-- what a house gave does not depend on what it is in the end
pub opened_again : {D C : Type 0} (house later : RunHouse D C) (asked : DoorsAsked) (feed_port : ℕ) (doors : List D) (feed : D)
    → later ≡ record house { after = later.after } → AreBothOpened house asked feed_port doors feed
    → AreBothOpened later asked feed_port doors feed
opened_again {D = D} {C = C} house later asked feed_port doors feed same opened =
    subst (λ (h : RunHouse D C). AreBothOpened h asked feed_port doors feed) (sym same) (record {
      opened = record {
        count = opened.opened.count;
        port = opened.opened.port;
        unknocked = opened.opened.unknocked;
      };
      fed = record {
        count = opened.fed.count;
        port = opened.fed.port;
        unknocked = opened.fed.unknocked;
      };
    })

pub leads_doors : {D C : Type 0} (house given : RunHouse D C) (ear : RunEar) (board : Boarded) (asked : DoorsAsked) (feed_port : ℕ)
    (doors : List D) (feed : D) (before after : Option (List ℕ)) (ended : Status)
    → given ≡ with_both_given house asked feed_port → house.after.asked ≡ asked ∷ feed_asked feed_port ∷ [] → AreBothOpened house asked feed_port doors feed
    → LeadsAt given ear board doors feed asked.port feed_port before after ended
    → LeadEnds house ear board asked feed_port before after ended
leads_doors {D = D} {C = C} house given ear board asked feed_port doors feed before after ended same both opened ends = inl (record {
  both = both;
  doors = doors;
  feed = feed;
  opened = opened;
  ends = subst (λ (h : RunHouse D C). LeadsAt h ear board doors feed asked.port feed_port before after ended) same ends;
})

pub leads_nowhere : {D C : Type 0} (house : RunHouse D C) (ear : RunEar) (board : Boarded) (asked : DoorsAsked) (feed_port : ℕ)
    (why : HouseError) (cause ended : Status) (before after : Option (List ℕ))
    → IsRefused house asked feed_port → (why ≡ refusal.Failed → Rose house.before.door_faults house.after.door_faults)
    → cause ≡ status_without_doors why → IsUnrung ear → PutsCause before after cause ended
    → LeadEnds house ear board asked feed_port before after ended
leads_nowhere house ear board asked feed_port why cause ended before after refused rose is heard put = inr (record {
  refused = refused;
  cause = cause;
  is = subst (λ why_not. IsDoorsCause house why_not) (sym is) (doors_cause house ear why rose);
  heard = heard;
  put = put;
})
