-- All passes of a board, as the sharing ends.
use Rattle.std.proofs.Common.{◌≡◌, ℕ, ◌<◌, List, get_or, All, ap, ◌∙◌, subst}
use Rattle.atomic_table.specs.Seated.{TableId}
use Rattle.turn_book.specs.Books.{AreAllSeats, GoesOnFromEach, IsBaseOfLast}
use Rattle.turn_book.specs.Histories.{NamesBelow}
use Rattle.path_core.specs.declared.entry.Entry.{Entry}
use Rattle.path_core.specs.Passes.{pass_of, OthersAdd}
use Rattle.path_board.specs.declared.state.Foundation.{Foundation}
use Rattle.path_board.specs.declared.pass.Pass.{Pass}
use Rattle.path_board.specs.Holding.{foundation_or}
use Rattle.path_board.specs.Listed.{listed}
use Rattle.path_board.specs.Passes.{seen_of}
use Rattle.path_board.specs.SharedBoards.{AreAllPasses, GoesOnFromAll}
use Rattle.path_board.specs.SharedBoards.{IsBaseOfLast as IsBaseOfLastPass}
use Rattle.path_board.proofs.Answering.{named_of, others_of}

pub all_seats : (id : TableId) (passes : List Pass) → AreAllPasses id passes → AreAllSeats id (λ pass. pass.seat) passes
all_seats id passes all = record {
  some = all.some;
  first = record {
    book = all.of;
    idle = λ place default early. (get_or passes place default).idle;
    number = λ place default early. (get_or passes place default).numbered ∙ all.number place default early;
  };
  last = all.last;
}

pub goes_on_from_all : (passes : List Pass) (history : List Entry) → listed history ≡ history → GoesOnFromEach pass_of (λ pass. pass.seat) passes (listed history)
    → GoesOnFromAll passes history
goes_on_from_all passes history whole goes = λ place default early.
    subst (OthersAdd place (seen_of (get_or passes place default))) whole (others_of place (seen_of (get_or passes place default)) (listed history) (goes place default early))

pub all_named : (count : ℕ) (history : List Entry) → listed history ≡ history → NamesBelow pass_of count (listed history) → All (λ entry. pass_of entry < count) history
all_named count history whole named = subst (All (λ entry. pass_of entry < count)) whole (named_of count (listed history) named)

pub base_of_last : (passes : List Pass) (base : Foundation) → IsBaseOfLast (λ pass. pass.seat) passes base → IsBaseOfLastPass passes base
base_of_last passes base is = λ default. ap foundation_or (is default)
