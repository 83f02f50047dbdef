use Rattle.std.proofs.Common.{ap}
use Rattle.path_core.specs.declared.entry.Entry.TheVariants.{Publish}
use Rattle.path_board.proofs.Answering.{entered, met_lent, one_more_as, seen_lent}
use Rattle.path_board.proofs.shared.SharedBoard.publish.Goals as goal

pub returns-in-Ok-clause-entered : goal.returns-in-Ok-clause-entered
returns-in-Ok-clause-entered g c = entered c.args.pass.now _ _ _ _ c.publish.ensures.state
    (met_lent c.args.pass.now _ _ c.state_mut.ensures.value c.turn-turn.ensures.list c.turn-turn.ensures.base)
    (one_more_as _ _ _ _ _ (ap (Publish c.args.pass.now.number) c.in-Ok.ensures.prefix) c.commit.ensures.seen (seen_lent _ _ _ c.state_mut.ensures.value c.turn-turn.ensures.seen))
    c.in-Ok.ensures.newer
