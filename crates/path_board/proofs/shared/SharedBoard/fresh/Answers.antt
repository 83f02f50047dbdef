use Rattle.std.proofs.Common.{ap, sym, ◌∙◌, subst}
use Rattle.versions.specs.Databases.{IsVersion}
use Rattle.path_board.specs.Holding.{foundation_or}
use Rattle.path_board.proofs.Answering.{holds_on}
use Rattle.path_board.proofs.Keeping.{moved_on, others_seen, up_to_date}
use Rattle.path_board.proofs.shared.SharedBoard.fresh.Goals as goal

pub invariant_of-pass-clause-holds : goal.invariant_of-pass-clause-holds
invariant_of-pass-clause-holds c = holds_on c.args.pass.now _ _ (ap foundation_or c.count-count.ensures.same.base) c.count-count.ensures.list _ _ c.args.pass.now.holds

pub returns-then-count-pass-clause-others : goal.returns-then-count-pass-clause-others
returns-then-count-pass-clause-others c = others_seen c.args.pass.now _ c.count-count.ensures.list

pub returns-then-count-pass-clause-moved : goal.returns-then-count-pass-clause-moved
returns-then-count-pass-clause-moved c = moved_on c.args.pass.now _ _ c.count-count.ensures.list c.count-count.ensures.count c.if-count-pass.true

pub returns-clause-others : goal.returns-clause-others
returns-clause-others c = others_seen c.args.pass.now _ c.count-count.ensures.list

pub returns-clause-fresh : goal.returns-clause-fresh
returns-clause-fresh c = up_to_date _ (subst IsVersion c.deref.ensures c.grid.ensures.version) (sym c.if-count-pass.false ∙ c.count-count.ensures.count)
