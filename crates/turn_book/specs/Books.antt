-- What a clause reads of a book, a turn and a note.
use Rattle.std.specs.Prelude.{◌≡◌, ◌≢◌, ℕ, ◌+◌, List, [], length, Option, Some, None, slice_index_or, ◌-◌, ◌<◌}
use Rattle.std.specs.Borrow.{MutBor}
use Rattle.atomic_table.specs.Seated.{TableId}
use Rattle.atomic_table.specs.declared.shared.Seat.{Seat}
use Rattle.turn_book.specs.Histories.{AddsNoneOf}
use Rattle.turn_book.specs.Turns.{book_of, number_of, seen_of, made_of, base_of, looks_of, IsIdle, IsServed}
use Rattle.turn_book.specs.Rule.{view_of}
use Rattle.turn_book.specs.declared.view.View.{View}
use Rattle.turn_book.specs.declared.view.Phase.TheVariants.{Idle}
use Rattle.turn_book.specs.declared.book.Book.{Book}
use Rattle.turn_book.specs.declared.turn.Turn.{Turn}
use Rattle.turn_book.specs.declared.note.Note.{Note}

module _ {S E B : Type 0} where
  -- which book it is
  abbrev pub id_of : Book S E B → TableId
  id_of book = book.table.shared.table_id

  -- the seat whose turn it is
  abbrev pub seat_of : Turn S E B → Seat (Option S) (View E B)
  seat_of turn = turn.seat.now

  -- the state in the turn's hand
  abbrev pub state_of : Turn S E B → S
  state_of turn = turn.state

  -- the turn borrows this book and this seat
  abbrev pub Borrows : Turn S E B → Book S E B → MutBor (Seat (Option S) (View E B)) → Type 0
  Borrows turn book seat = (turn.book.now ≡ book) × (turn.seat.ghost_name ≡ seat.ghost_name)

  -- the turn's seat is served by the turn's book
  pub record IsTurn (turn : Turn S E B) : Type 0 where
    pub book : book_of (seat_of turn) ≡ id_of turn.book.now
    pub ticket : ℕ
    pub served : IsServed (seat_of turn) ticket

  -- the history as far as the note knows it
  abbrev pub seen_by : Note S E B → List E
  seen_by note = seen_of note.seat

  -- the note was made at this book
  pub record IsNoteOf (id : TableId) (note : Note S E B) : Type 0 where
    pub book : book_of note.seat ≡ id
    pub me : note.seat.me ≡ (view_of None Idle (seen_by note) 0 (base_of note.seat) None, [])
    pub based : base_of note.seat ≢ None

module _ {S E B : Type 0} where
  -- the seat at a place of the list that a new book of so many seats gives
  pub record IsNewSeat (id : TableId) (base : Option B) (count place : ℕ) (seat : Seat (Option S) (View E B)) : Type 0 where
    pub book : book_of seat ≡ id
    pub idle : IsIdle seat
    pub number : number_of seat ≡ place
    pub seen : seen_of seat ≡ []
    pub looks : looks_of seat ≡ 0
    pub base_is : base_of seat ≡ base
    pub last : place + 1 ≡ count → made_of seat ≡ Some count

  -- the seats of a new book, in the order of their numbers; the last one knows how many there are
  pub record AreNewSeats (id : TableId) (base : Option B) (count : ℕ) (seats : List (Seat (Option S) (View E B))) : Type 0 where
    pub count_is : length seats ≡ count
    pub each : (place : ℕ) (default : Seat (Option S) (View E B)) → place < length seats
        → IsNewSeat id base count place (slice_index_or seats place default)

  -- the list has the first seats of a book, in the order of their numbers, each with whatever it lies in
  pub record AreFirstSeats {T : Type 0} (id : TableId) (seat_in : T → Seat (Option S) (View E B)) (seats : List T) : Type 0 where
    pub book : (place : ℕ) (default : T) → place < length seats → book_of (seat_in (slice_index_or seats place default)) ≡ id
    pub idle : (place : ℕ) (default : T) → place < length seats → IsIdle (seat_in (slice_index_or seats place default))
    pub number : (place : ℕ) (default : T) → place < length seats → number_of (seat_in (slice_index_or seats place default)) ≡ place

  -- the list has all seats of a book, of which the last one knows how many there are
  pub record AreAllSeats {T : Type 0} (id : TableId) (seat_in : T → Seat (Option S) (View E B)) (seats : List T) : Type 0 where
    pub some : 0 < length seats
    pub first : AreFirstSeats id seat_in seats
    pub last : (default : T) → made_of (seat_in (slice_index_or seats (length seats - 1) default)) ≡ Some (length seats)

  -- the history goes on from what each seat has seen, and no entry past that names the seat
  abbrev pub GoesOnFromEach : {T : Type 0} → (E → ℕ) → (T → Seat (Option S) (View E B)) → List T → List E → Type 0
  GoesOnFromEach {T} names seat_in seats history = (place : ℕ) (default : T) → place < length seats
      → AddsNoneOf names place (seen_of (seat_in (slice_index_or seats place default))) history

  -- the last seat was told this base
  abbrev pub IsBaseOfLast : {T : Type 0} → (T → Seat (Option S) (View E B)) → List T → B → Type 0
  IsBaseOfLast {T} seat_in seats base = (default : T) → base_of (seat_in (slice_index_or seats (length seats - 1) default)) ≡ Some base
