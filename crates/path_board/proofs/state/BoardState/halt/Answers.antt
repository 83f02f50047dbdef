use Rattle.path_board.proofs.Listing.{halt_added, halt_none, halt_refused, on_each}
use Rattle.std.proofs.Common.{◌≡◌, cond, IsFalse}
use Rattle.path_core.specs.declared.entry.Entry.TheVariants.{Halt}
use Rattle.path_core.specs.Boards.{with_entry}
use Rattle.path_board.proofs.state.BoardState.halt.Goals as goal

pub returns-clause-entered : goal.returns-clause-entered
returns-clause-entered c = on_each _ _ _ c.halt-answer.ensures.entered (λ halted after. halt_added _ _ _ halted c.whole.ensures c.whole-2.ensures after)

pub returns-clause-halts : goal.returns-clause-halts
returns-clause-halts c = on_each c.halt-answer.result
    (λ halted. c.halt-answer.new.self ≡ cond halted (with_entry c.args.self.now.board (Halt c.args.pass)) c.args.self.now.board)
    (λ halted. IsFalse halted → record { board = c.halt-answer.new.self } ≡ c.args.self.now) c.halt-answer.ensures.entered
    (λ halted after. halt_none c.args.self.now (record { board = c.halt-answer.new.self }) c.args.pass halted after)

pub returns-clause-refused : goal.returns-clause-refused
returns-clause-refused c = halt_refused _ _ _ c.halt-answer.ensures.refused c.halt-answer.ensures.halts
