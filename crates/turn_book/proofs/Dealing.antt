-- The seats of a new book, one after another.
use Rattle.std.proofs.Common.{◌≡◌, ◌≢◌, ℕ, ◌+◌, ◌<◌, List, [], ◌∷◌, ◌++◌, length, get_or, sym, ap, ◌∙◌, subst, Option, Some, None}
use Rattle.atomic_table.specs.Seated.{TableId}
use Rattle.atomic_table.specs.declared.shared.Seat.{Seat}
use Rattle.turn_book.specs.Rule.{view_of}
use Rattle.turn_book.specs.Turns.{number_or, resting}
use Rattle.turn_book.specs.Books.{IsNewSeat}
use Rattle.turn_book.specs.declared.view.View.{View}
use Rattle.turn_book.specs.declared.view.Phase.TheVariants.{Idle}
use Rattle.turn_book.proofs.Lists.{each_pushed}

module _ {S E B : Type 0} where
  -- a seat with this number that has done nothing yet
  pub new_seat : (id : TableId) (base : Option B) (count place : ℕ) (made : Option ℕ) (seat : Seat (Option S) (View E B)) → seat.table_id ≡ id
      → seat.me ≡ (view_of (Some place) Idle [] 0 base made, []) → base ≢ None → (place + 1 ≡ count → made ≡ Some count) → IsNewSeat id base count place seat
  new_seat id base count place made seat of me based last = record {
    book = of;
    idle = record { me = me ∙ sym (ap (λ (m : View E B × List (ℕ × Option S)). resting m.0) me); based = subst (λ (m : View E B × List (ℕ × Option S)). m.0.base ≢ None) (sym me) based };
    number = ap (λ (m : View E B × List (ℕ × Option S)). number_or m.0.number) me;
    seen = ap (λ (m : View E B × List (ℕ × Option S)). m.0.seen) me;
    looks = ap (λ (m : View E B × List (ℕ × Option S)). m.0.looks) me;
    base_is = ap (λ (m : View E B × List (ℕ × Option S)). m.0.base) me;
    last = λ is. ap (λ (m : View E B × List (ℕ × Option S)). m.0.made) me ∙ last is;
  }

  pub one_more_seat : (id : TableId) (base : Option B) (count : ℕ) (seats : List (Seat (Option S) (View E B))) (seat : Seat (Option S) (View E B))
      → ((place : ℕ) (default : Seat (Option S) (View E B)) → place < length seats → IsNewSeat id base count place (get_or seats place default))
      → IsNewSeat id base count (length seats) seat
      → (place : ℕ) (default : Seat (Option S) (View E B)) → place < length (seats ++ seat ∷ [])
      → IsNewSeat id base count place (get_or (seats ++ seat ∷ []) place default)
  one_more_seat id base count = each_pushed (IsNewSeat id base count)
