use Rattle.std.proofs.Common.{ap, ◌∙◌}
use Rattle.path_core.specs.Looks.{IsJob}
use Rattle.path_board.specs.Holding.{foundation_or}
use Rattle.path_board.proofs.Answering.{answered, holds_at, known_yet, met_lent, seen_lent}
use Rattle.path_board.proofs.Listing.{on_each}
use Rattle.path_board.proofs.shared.SharedBoard.job.Goals as goal

pub job-answer-requires : goal.job-answer-requires
job-answer-requires g c = known_yet c.args.pass.now _ _ (met_lent c.args.pass.now _ _ c.state.ensures c.turn-turn.ensures.list c.turn-turn.ensures.base) c.requires.known

pub invariant_of-pass-clause-holds : goal.invariant_of-pass-clause-holds
invariant_of-pass-clause-holds g c = holds_at c.args.pass.now _ _ _ (ap foundation_or (c.end.ensures.same.base ∙ c.turn-turn.ensures.same.base))
    c.turn-turn.ensures.list (c.end.ensures.seen ∙ c.turn-turn.ensures.seen) _ _ c.args.pass.now.holds

pub returns-clause-job : goal.returns-clause-job
returns-clause-job g c = on_each _ _ _ c.job-answer.ensures.job (λ job is. answered c.args.pass.now _ _ (λ board. IsJob board c.args.known job)
    c.job-answer.ensures.state (met_lent c.args.pass.now _ _ c.state.ensures c.turn-turn.ensures.list c.turn-turn.ensures.base)
    (c.end.ensures.seen ∙ seen_lent _ _ _ c.state.ensures c.turn-turn.ensures.seen) is)
