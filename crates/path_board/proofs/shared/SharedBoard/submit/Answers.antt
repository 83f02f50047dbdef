use Rattle.std.proofs.Common.{◌∙◌}
use Rattle.path_board.proofs.Answering.{answered, entered, met_lent, one_more, seen_lent}
use Rattle.path_board.proofs.shared.SharedBoard.submit.Goals as goal

pub returns-in-Ok-clause-entered : goal.returns-in-Ok-clause-entered
returns-in-Ok-clause-entered g c = entered c.args.pass.now _ _ _ _ c.submit.ensures.state
    (met_lent c.args.pass.now _ _ c.state_mut.ensures.value c.turn-turn.ensures.list c.turn-turn.ensures.base)
    (one_more _ _ _ _ c.commit.ensures.seen (seen_lent _ _ _ c.state_mut.ensures.value c.turn-turn.ensures.seen)) c.in-Ok.ensures.may

pub returns-in-Err-clause-refused : goal.returns-in-Err-clause-refused
returns-in-Err-clause-refused g c = answered c.args.pass.now _ _ _ c.submit.ensures.state
    (met_lent c.args.pass.now _ _ c.state_mut.ensures.value c.turn-turn.ensures.list c.turn-turn.ensures.base)
    (c.end.ensures.seen ∙ seen_lent _ _ _ c.state_mut.ensures.value c.turn-turn.ensures.seen) c.in-Err.ensures.refused
