-- Shared boards, and all their passes.
use Rattle.std.specs.Prelude.{◌≡◌, ℕ, ◌+◌, ◌-◌, ◌<◌, List, [], length, Some, slice_index_or}
use Rattle.atomic_table.specs.Seated.{TableId}
use Rattle.turn_book.specs.Books.{id_of}
use Rattle.turn_book.specs.Turns.{made_of}
use Rattle.path_core.specs.declared.entry.Entry.{Entry}
use Rattle.path_core.specs.Boards.{Boarded}
use Rattle.path_core.specs.Passes.{OthersAdd}
use Rattle.path_board.specs.declared.state.Foundation.{Foundation}
use Rattle.path_board.specs.declared.pass.Pass.{Pass}
use Rattle.path_board.specs.declared.shared.SharedBoard.{SharedBoard}
use Rattle.path_board.specs.Foundations.{foundation_of}
use Rattle.path_board.specs.Passes.{base_by, count_of, held_of, looks_of, seen_of, IsPassOf}

-- which shared board it is
abbrev pub board_id : SharedBoard → TableId
board_id board = id_of board.book

-- the pass at a place of the list that a board gives which is shared by so many: it has seen nothing and holds the board's
-- version
pub record IsNewPass (id : TableId) (board : Boarded) (count place : ℕ) (pass : Pass) : Type 0 where
  pub of : IsPassOf id pass
  pub number : pass.number ≡ place
  pub seen : seen_of pass ≡ []
  pub looks : looks_of pass ≡ 0
  pub held : held_of pass ≡ board.version
  pub entries : count_of pass ≡ 0
  pub base : base_by pass ≡ foundation_of board
  pub last : place + 1 ≡ count → made_of pass.seat ≡ Some count

-- the passes of a board that is newly shared, in the order of their numbers; the last one knows how many there are
pub record AreNewPasses (id : TableId) (board : Boarded) (count : ℕ) (passes : List Pass) : Type 0 where
  pub count_is : length passes ≡ count
  pub each : (place : ℕ) (default : Pass) → place < length passes → IsNewPass id board count place (slice_index_or passes place default)

-- the list has all passes of a shared board, in the order of their numbers
pub record AreAllPasses (id : TableId) (passes : List Pass) : Type 0 where
  pub some : 0 < length passes
  pub of : (place : ℕ) (default : Pass) → place < length passes → IsPassOf id (slice_index_or passes place default)
  pub number : (place : ℕ) (default : Pass) → place < length passes → (slice_index_or passes place default).number ≡ place
  pub last : (default : Pass) → made_of (slice_index_or passes (length passes - 1) default).seat ≡ Some (length passes)

-- the history goes on from what each pass has seen, and no entry past that is the pass's own
abbrev pub GoesOnFromAll : List Pass → List Entry → Type 0
GoesOnFromAll passes history = (place : ℕ) (default : Pass) → place < length passes
    → OthersAdd place (seen_of (slice_index_or passes place default)) history

-- the last pass was told this foundation
abbrev pub IsBaseOfLast : List Pass → Foundation → Type 0
IsBaseOfLast passes base = (default : Pass) → base_by (slice_index_or passes (length passes - 1) default) ≡ base
