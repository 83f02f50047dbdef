-- Seats that were joined to the last one, as a book ends.
use Rattle.std.specs.List.{AllByRecursion}
use Rattle.std.specs.Prelude.{◌≡◌, ◌≢◌, ℕ, ◌+◌, ◌-◌, ◌<◌, ◌≤◌, List, [], length, Option, Some, None, slice_index_or}
use Rattle.atomic_table.specs.Seated.{TableId}
use Rattle.atomic_table.specs.declared.shared.Seat.{Seat}
use Rattle.turn_book.specs.Histories.{StartsWith, AddsNoneOf}
use Rattle.turn_book.specs.Rule.{own_list}
use Rattle.turn_book.specs.Steps.{AddsNoneOfOwn}
use Rattle.turn_book.specs.Turns.{base_of, seen_of}
use Rattle.turn_book.specs.declared.view.View.{View}
use Rattle.turn_book.specs.declared.view.Phase.TheVariants.{Idle}

-- what a view with others joined to it says of the history
abbrev pub Says : {E B : Type 0} → (E → ℕ) → View E B → List E → Type 0
Says names v history =
    AddsNoneOfOwn names v.number (own_list v) history × AllByRecursion (λ e. AddsNoneOf names e.number e.seen history) v.ended

-- all seats but a beginning of the list are joined to this one, which is the last
pub record IsGathered {S E B T : Type 0} (names : E → ℕ) (id : TableId) (seat_in : T → Seat (Option S) (View E B))
    (seats left : List T) (all : Seat (Option S) (View E B)) : Type 0 where
  pub book : all.table_id ≡ id
  pub bare : all.me.1 ≡ []
  pub idle : all.me.0.phase ≡ Idle
  pub some_number : all.me.0.number ≢ None
  pub based : all.me.0.base ≢ None
  pub base_is : (default : T) → all.me.0.base ≡ base_of (seat_in (slice_index_or seats (length seats - 1) default))
  pub made : all.me.0.made ≡ Some (length seats)
  pub ended : length all.me.0.ended + length left + 1 ≡ length seats
  pub starts : StartsWith seats left
  pub says : (history : List E) → Says names all.me.0 history → (place : ℕ) (default : T) → length left ≤ place → place < length seats
      → AddsNoneOf names place (seen_of (seat_in (slice_index_or seats place default))) history
