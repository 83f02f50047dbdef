use Rattle.std.proofs.Common.{◌∙◌, sym}
use Rattle.row_store.proofs.Spans.{none_merged}
use Rattle.row_store.proofs.pool.RowPool.merge.Goals as goal

pub returns-then-runs-eq0-clause-merged : goal.returns-then-runs-eq0-clause-merged
returns-then-runs-eq0-clause-merged c = none_merged _ _ c.requires (sym c.runs.ensures ∙ c.if-runs-eq0.true)
