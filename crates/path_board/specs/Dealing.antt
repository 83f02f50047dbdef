-- What the passes of a board are made of.
use Rattle.std.specs.Prelude.{◌≡◌, ℕ, List, [], length, All, Option, Some}
use Rattle.atomic_table.specs.Seated.{TableId}
use Rattle.atomic_table.specs.declared.shared.Seat.{Seat}
use Rattle.turn_book.specs.Books.{AreNewSeats}
use Rattle.turn_book.specs.declared.view.View.{View}
use Rattle.versions.specs.Databases.{Versioned}
use Rattle.path_core.specs.declared.entry.Entry.{Entry}
use Rattle.path_core.specs.Boards.{Boarded}
use Rattle.path_core.specs.Histories.{published_prefix, IsVersionAt}
use Rattle.path_board.specs.declared.state.BoardState.{BoardState}
use Rattle.path_board.specs.declared.state.Foundation.{Foundation}
use Rattle.path_board.specs.declared.pass.Pass.{Pass}
use Rattle.path_board.specs.Foundations.{foundation_of}
use Rattle.path_board.specs.SharedBoards.{AreNewPasses}

-- so many copies of the published version, each of whatever holds it
pub record AreCopies {A : Type 0} (value : A → Versioned) (board : Boarded) (count : ℕ) (copies : List A) : Type 0 where
  pub count_is : length copies ≡ count
  pub published : IsVersionAt board.start board.order board.history (published_prefix board.history) board.version
  pub each : All (λ copy. value copy ≡ board.version) copies

-- the seats of a new book over a board with no entries, and as many copies of its version
pub record IsDeal {A : Type 0} (value : A → Versioned) (id : TableId) (board : Boarded)
    (seats : List (Seat (Option BoardState) (View Entry Foundation))) (copies : List A) : Type 0 where
  pub seats_are : AreNewSeats id (Some (foundation_of board)) (length seats) seats
  pub empty : board.history ≡ []
  pub copies_are : AreCopies value board (length seats) copies

-- there is a board of which these are the seats and the copies
pub record HasDeal {A : Type 0} (value : A → Versioned)
    (seats : List (Seat (Option BoardState) (View Entry Foundation))) (copies : List A) : Type 0 where
  pub id : TableId
  pub board : Boarded
  pub is : IsDeal value id board seats copies

-- of whatever board these are the seats and the copies, the passes are its new ones
abbrev pub DealsTo : {A : Type 0} → (A → Versioned) → List (Seat (Option BoardState) (View Entry Foundation)) → List A → List Pass → Type 0
DealsTo {A} value seats copies passes = (id : TableId) (board : Boarded)
    → IsDeal value id board seats copies → AreNewPasses id board (length seats) passes
