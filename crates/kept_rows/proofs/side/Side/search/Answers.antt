use Rattle.kept_rows.proofs.Surveying.{can_still}
use Rattle.kept_rows.proofs.side.Side.search.Goals as goal

pub returns-clause-can : goal.returns-clause-can
returns-clause-can c = can_still _ _ c.requires.can c.run.ensures.cells c.run.ensures.near c.run.ensures.count

pub returns-clause-searched : goal.returns-clause-searched
returns-clause-searched c = λ done. record { can = can_still _ _ c.requires.can c.run.ensures.cells c.run.ensures.near c.run.ensures.count; solved = c.run.ensures.solved done }
