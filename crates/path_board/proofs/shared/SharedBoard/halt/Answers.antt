use Rattle.std.proofs.Common.{◌∙◌}
use Rattle.path_board.proofs.Answering.{answered, entered, met_lent, no_halt, one_more, seen_lent}
use Rattle.path_board.proofs.shared.SharedBoard.halt.Goals as goal

pub returns-in-Ok-true-clause-entered : goal.returns-in-Ok-true-clause-entered
returns-in-Ok-true-clause-entered g c = λ _. entered c.args.pass.now _ _ _ _ c.halt.ensures.state
    (met_lent c.args.pass.now _ _ c.state_mut.ensures.value c.turn-turn.ensures.list c.turn-turn.ensures.base)
    (one_more _ _ _ _ c.commit.ensures.seen (seen_lent _ _ _ c.state_mut.ensures.value c.turn-turn.ensures.seen))
    (no_halt _ _ c.in-Ok-true.ensures.first c.in-Ok-true.field-0-test)

pub returns-in-Ok-false-clause-halts : goal.returns-in-Ok-false-clause-halts
returns-in-Ok-false-clause-halts g c = λ _. answered c.args.pass.now _ _ _ c.halt.ensures.state
    (met_lent c.args.pass.now _ _ c.state_mut.ensures.value c.turn-turn.ensures.list c.turn-turn.ensures.base)
    (c.end.ensures.seen ∙ seen_lent _ _ _ c.state_mut.ensures.value c.turn-turn.ensures.seen)
    (c.in-Ok-false.ensures.first.0 c.in-Ok-false.field-0-test)
