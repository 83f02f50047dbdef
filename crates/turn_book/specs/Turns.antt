-- What a clause reads of a seat.
use Rattle.std.specs.Prelude.{◌≡◌, ◌≢◌, ℕ, List, [], ◌∷◌, Option, Some, None}
use Rattle.std.specs.Borrow.{MutBor}
use Rattle.atomic_table.specs.Seated.{TableId}
use Rattle.atomic_table.specs.declared.shared.Seat.{Seat}
use Rattle.turn_book.specs.Histories.{AddsNoneOf}
use Rattle.turn_book.specs.Rule.{view_of}
use Rattle.turn_book.specs.declared.view.View.{View}
use Rattle.turn_book.specs.declared.view.Phase.TheVariants.{Idle, Waiting, Served}

-- a lock has three words and one slot
abbrev pub IsSized : TableId → Type 0
IsSized id = (id.words ≡ 3) × (id.slots ≡ 1)

abbrev pub number_or : Option ℕ → ℕ
number_or None = 0
number_or (Some n) = n

module _ {S E B : Type 0} where
  -- which book the seat is of
  abbrev pub book_of : Seat (Option S) (View E B) → TableId
  book_of seat = seat.table_id

  -- the history as far as the seat has seen it
  abbrev pub seen_of : Seat (Option S) (View E B) → List E
  seen_of seat = seat.me.0.seen

  -- the seat's number, by which entries name it
  abbrev pub number_of : Seat (Option S) (View E B) → ℕ
  number_of seat = number_or seat.me.0.number

  -- how often the seat has looked at the history
  abbrev pub looks_of : Seat (Option S) (View E B) → ℕ
  looks_of seat = seat.me.0.looks

  -- the base of each state of the book
  abbrev pub base_of : Seat (Option S) (View E B) → Option B
  base_of seat = seat.me.0.base

  -- how many seats the book has, which one of them knows
  abbrev pub made_of : Seat (Option S) (View E B) → Option ℕ
  made_of seat = seat.me.0.made

  -- the history goes on from what the seat has seen, and no entry past that names the seat
  abbrev pub GoesOn : (E → ℕ) → Seat (Option S) (View E B) → List E → Type 0
  GoesOn names seat history = AddsNoneOf names (number_of seat) (seen_of seat) history

  -- the view with its own number and no ticket, with nothing joined and no slot in its hand
  abbrev pub resting : View E B → View E B × List (ℕ × Option S)
  resting v = (view_of (Some (number_or v.number)) Idle v.seen v.looks v.base v.made, [])

  -- the seat has no turn, and has told all that it met
  pub record IsIdle (seat : Seat (Option S) (View E B)) : Type 0 where
    pub me : seat.me ≡ resting seat.me.0
    pub based : base_of seat ≢ None

  -- the seat is of the same book and has the same number, base and count of seats
  pub record SameSeat (before after : Seat (Option S) (View E B)) : Type 0 where
    pub book : book_of after ≡ book_of before
    pub number : number_of after ≡ number_of before
    pub base : base_of after ≡ base_of before
    pub made : made_of after ≡ made_of before

  -- the seat has drawn a ticket
  pub record IsWaiting (seat : Seat (Option S) (View E B)) (ticket : ℕ) : Type 0 where
    pub me : seat.me ≡ (view_of (Some (number_of seat)) (Waiting ticket) (seen_of seat) (looks_of seat) (base_of seat) (made_of seat), [])
    pub based : base_of seat ≢ None

  -- the seat has the turn of its ticket, and the slot, whose state is out in the caller's hand
  pub record IsServed (seat : Seat (Option S) (View E B)) (ticket : ℕ) : Type 0 where
    pub me : seat.me
        ≡ (view_of (Some (number_of seat)) (Served ticket) (seen_of seat) (looks_of seat) (base_of seat) (made_of seat), (0, None) ∷ [])
    pub based : base_of seat ≢ None

  -- the seat that a turn leaves behind it, as its fields end: the book, the seat and the state
  abbrev pub seat_left : {A C : Type 0} → A × (MutBor (Seat (Option S) (View E B)) × C) → Seat (Option S) (View E B)
  seat_left left = left.1.0.now
