use Rattle.row_store.specs.Layout.{AreFilled}
use Rattle.row_store.proofs.pool.fill_spans.Given as goal

abbrev pub invariant-loop-place : goal.invariant-loop-place
invariant-loop-place l = AreFilled l.blocks l.fn.own.items l.others l.own.items l.place
