use Rattle.std.proofs.Common.{ap}
use Rattle.path_board.specs.Foundations.{foundation_of}
use Rattle.path_board.proofs.Listing.{added, on_one}
use Rattle.path_board.proofs.state.BoardState.submit.Goals as goal

pub returns-clause-entered : goal.returns-clause-entered
returns-clause-entered c = on_one _ _ _ c.submit-answer.ensures.entered
    (λ is. added _ _ _ c.whole.ensures c.whole-2.ensures (ap (λ b. b.history) is) (ap foundation_of is))
