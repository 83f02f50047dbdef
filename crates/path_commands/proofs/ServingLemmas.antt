-- Why serving a board at the doors of a house ends as it does.
use Rattle.std.proofs.Common.{◌≡◌, ℕ, ◌==◌, false, true, not, List, [], ◌∷◌, All, length, get_or, None, Option, Some, refl, sym, subst, ap, ◌∙◌, arith}
use Rattle.std.proofs.lemmas.Bool.{ne_eqb}
use Rattle.std.proofs.lemmas.List.Folds.{list_any_at}
use Rattle.std.proofs.lemmas.List.Elements.{All-get_or, All-weaker}
use Rattle.wire.specs.Causes.{Rose}
use Rattle.wire.specs.Houses.{HasLentDoors, IsUnknocked, Lendings, count_if, rose_once}
use Rattle.wire.specs.Knocks.{AtDoor}
use Rattle.wire.specs.declared.house.HouseError.{HouseError}
use Rattle.wire.specs.declared.house.HouseError.TheVariants as refusal
use Rattle.session.specs.Crews.{SomeRose}
use Rattle.path_commands.specs.declared.status.Status.{Status}
use Rattle.path_commands.specs.Asks.{HasGivenNone, RunHouse}
use Rattle.path_commands.specs.Serving.{IsUnrung, IsDoorsCause, OpensNone, PutsCause, RunEar, status_without_doors}

-- a count that was 0 and rose is not 0
above_zero : (before after : ℕ) → before ≡ 0 → Rose before after → not (after == 0) ≡ true
above_zero before after none rose = ap not (ne_eqb after 0 (λ same. omega arith))

module _ {D : Type 0} (at : D → AtDoor) where
  -- doors at which nobody has knocked are not closed
  pub unclosed_of : (doors : List D) → All (λ door. IsUnknocked (at door)) doors → All (λ door. (at door).closed ≡ false) doors
  unclosed_of = All-weaker (λ door. IsUnknocked (at door)) (λ door. (at door).closed ≡ false) (λ door unknocked. unknocked.unclosed)

  -- and none has failed
  pub unfailed_of : (doors : List D) → All (λ door. IsUnknocked (at door)) doors → All (λ door. (at door).faults ≡ 0) doors
  unfailed_of = All-weaker (λ door. IsUnknocked (at door)) (λ door. (at door).faults ≡ 0) (λ door unknocked. unknocked.no_fault)

  -- where a count of a door rose from 0, it is found among them
  pub rose_found : (before after : List D) → length after ≡ length before → All (λ door. IsUnknocked (at door)) before → SomeRose at before after
      → rose_once (λ door. (at door).faults) after ≡ true
  rose_found before [] long none some = let early = some.within in absurd (omega (arith, long, early))
  rose_found before (door ∷ doors) long none some =
      let early = some.within in
      let was : (at (get_or before some.place door)).faults ≡ 0 =
      All-get_or (λ door. (at door).faults ≡ 0) before some.place door early (unfailed_of before none) in
      list_any_at (λ door. not ((at door).faults == 0)) (door ∷ doors) some.place door (omega (arith, long, early))
      (above_zero (at (get_or before some.place door)).faults (at (get_or (door ∷ doors) some.place door)).faults was (some.rose door))

  -- where a count of a door rose, that of the house rises as the doors are handed back
  pub house_rose : (before after : List D) (past now : ℕ) → length after ≡ length before → All (λ door. IsUnknocked (at door)) before → SomeRose at before after
      → now ≡ count_if (rose_once (λ door. (at door).faults) after) past → Rose past now
  house_rose before after past now long none some told =
      let one : now ≡ count_if true past = told ∙ ap (λ b. count_if b past) (rose_found before after long none some) in
      subst (λ n. Rose past n) (sym one) (omega arith)

module _ {D C : Type 0} (house : RunHouse D C) (ear : RunEar) where
  -- why a house gave no doors
  pub doors_cause : (why : HouseError) → (why ≡ refusal.Failed → Rose house.before.door_faults house.after.door_faults) → IsDoorsCause house (status_without_doors why)
  doors_cause refusal.Failed rose = rose refl
  doors_cause refusal.NoMemory rose = tt

  pub opens_none : (why : HouseError) (cause ended : Status) (before after : Option (List ℕ)) → (why ≡ refusal.Failed → Rose house.before.door_faults house.after.door_faults)
      → cause ≡ status_without_doors why → house.after.lent ≡ house.before.lent → IsUnrung ear → PutsCause before after cause ended → OpensNone house ear before after ended
  opens_none why cause ended before after rose is kept heard put = record {
    cause = cause;
    is = subst (λ cause. IsDoorsCause house cause) (sym is) (doors_cause why rose);
    kept = kept;
    heard = heard;
    put = put;
  }

-- a house that gave nothing has lent no door
pub none_lent : {D C : Type 0} (told : Option (Lendings D C)) → HasGivenNone told → HasLentDoors told 0
none_lent (Some lent) none = rw none (omega arith)
none_lent None none = tt
