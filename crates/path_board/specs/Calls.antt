-- What a call by a pass answers, and what the pass has seen then.
use Rattle.std.specs.Prelude.{true}
use Rattle.path_core.specs.declared.entry.Entry.{Entry}
use Rattle.path_core.specs.declared.board.Look.{Look}
use Rattle.path_core.specs.Boards.{Boarded}
use Rattle.path_core.specs.Looks.{IsLook}
use Rattle.path_core.specs.Passes.{AddsOwn, OthersAdd}
use Rattle.path_board.specs.declared.pass.Pass.{Pass}
use Rattle.path_board.specs.Passes.{base_by, seen_of, IsBoardAt}

-- A call that adds no entry answers what the board answers at what the pass has then seen. It goes on from what the pass
-- had seen, and no entry past that is the pass's own.
pub record AnswersAt (before after : Pass) (Answer : Boarded → Type 0) : Type 0 where
  pub board : Boarded
  pub at : IsBoardAt (base_by before) (seen_of after) board
  pub others : OthersAdd before.number (seen_of before) (seen_of after)
  pub answer : Answer board

-- A call that adds an entry answers what the board answers at the history before it. That goes on from what the pass had
-- seen, no entry past that is the pass's own, and the pass has then seen it with the entry.
pub record EntersAt (before after : Pass) (entry : Entry) (Answer : Boarded → Type 0) : Type 0 where
  pub board : Boarded
  pub own : AddsOwn before.number entry (seen_of before) (seen_of after)
  pub at : IsBoardAt (base_by before) own.between board
  pub answer : Answer board

-- a look but for whether the published version is held
abbrev pub IsLookBut : Look → Boarded → Type 0
IsLookBut look board = IsLook board (record look { held = true })
