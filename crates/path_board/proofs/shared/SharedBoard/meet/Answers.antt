use Rattle.std.proofs.Common.{ap}
use Rattle.path_board.specs.Holding.{foundation_or}
use Rattle.path_board.proofs.Answering.{begins_of, holds_on}
use Rattle.path_board.proofs.Keeping.{others_seen}
use Rattle.path_board.proofs.shared.SharedBoard.meet.Goals as goal

pub invariant_of-pass-clause-holds : goal.invariant_of-pass-clause-holds
invariant_of-pass-clause-holds c = holds_on c.args.pass.now _ _ (ap foundation_or c.meet.ensures.same.base) c.meet.ensures.list _ _ c.args.pass.now.holds

pub returns-clause-others : goal.returns-clause-others
returns-clause-others c = others_seen c.args.pass.now _ c.meet.ensures.list

pub returns-clause-met : goal.returns-clause-met
returns-clause-met c = begins_of _ _ c.meet.ensures.seen
