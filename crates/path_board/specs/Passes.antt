-- What a clause reads of a pass.
use Rattle.std.specs.Prelude.{◌≡◌, ℕ, ◌<◌, List, length}
use Rattle.std.specs.Arc.{arc_value}
use Rattle.atomic_table.specs.Seated.{TableId}
use Rattle.turn_book.specs.Turns.{base_of, book_of, made_of}
use Rattle.turn_book.specs.Turns.{seen_of as seen_at, looks_of as looks_at}
use Rattle.versions.specs.Databases.{Versioned}
use Rattle.path_core.specs.declared.entry.Entry.{Entry}
use Rattle.path_core.specs.Boards.{Boarded}
use Rattle.path_core.specs.Histories.{published_prefix, IsVersionAt}
use Rattle.path_board.specs.declared.state.Foundation.{Foundation}
use Rattle.path_board.specs.declared.state.Copied.{Copied}
use Rattle.path_board.specs.declared.pass.Pass.{Pass}
use Rattle.path_board.specs.Foundations.{foundation_of}
use Rattle.path_board.specs.Holding.{foundation_or}
use Rattle.path_board.specs.States.{IsCopied, IsSound}

-- the pass is one of that shared board
abbrev pub IsPassOf : TableId → Pass → Type 0
IsPassOf id pass = book_of pass.seat ≡ id

-- the history as far as the pass has seen it
abbrev pub seen_of : Pass → List Entry
seen_of pass = seen_at pass.seat

-- how often the pass has looked at the board, by whatever call
abbrev pub looks_of : Pass → ℕ
looks_of pass = looks_at pass.seat

-- the version that the pass holds
abbrev pub held_of : Pass → Versioned
held_of pass = arc_value pass.held

-- how many entries there were when the pass last looked and had the published version at hand
abbrev pub count_of : Pass → ℕ
count_of pass = pass.count

-- the first map, the order and the room of the board
abbrev pub base_by : Pass → Foundation
base_by pass = foundation_or (base_of pass.seat)

-- the pass is of the same board and has the same number
pub record SamePass (before after : Pass) : Type 0 where
  pub board : book_of after.seat ≡ book_of before.seat
  pub number : after.number ≡ before.number
  pub base : base_by after ≡ base_by before
  pub made : made_of after.seat ≡ made_of before.seat

-- the pass holds the version that it held
pub record KeepsHeld (before after : Pass) : Type 0 where
  pub held : held_of after ≡ held_of before
  pub count : count_of after ≡ count_of before

-- the version that the pass holds is that of its prefix, at what the pass has seen
abbrev pub HoldsVersion : Pass → Type 0
HoldsVersion pass = IsVersionAt (base_by pass).start (base_by pass).order (seen_of pass) (held_of pass).prefix (held_of pass)

-- the version that the pass holds is the published one, at what the pass has seen
pub record IsUpToDate (pass : Pass) : Type 0 where
  pub version : IsVersionAt (base_by pass).start (base_by pass).order (seen_of pass) (published_prefix (seen_of pass)) (held_of pass)
  pub count : count_of pass ≡ length (seen_of pass)

-- the pass holds what it held, and a later version is published
pub record KeepsOlder (before after : Pass) : Type 0 where
  pub kept : KeepsHeld before after
  pub older : (held_of before).prefix < published_prefix (seen_of after)

-- the board as it is at that history
pub record IsBoardAt (base : Foundation) (history : List Entry) (board : Boarded) : Type 0 where
  pub history_is : board.history ≡ history
  pub base_is : foundation_of board ≡ base
  pub sound : IsSound board

-- what the pass gets of the published version at what it has seen, which has so many entries
pub record Hands (pass : Pass) (count : ℕ) (copied : Copied) : Type 0 where
  pub board : Boarded
  pub at : IsBoardAt (base_by pass) (seen_of pass) board
  pub copied_is : IsCopied board (held_of pass).prefix copied
  pub count_is : count ≡ length (seen_of pass)
