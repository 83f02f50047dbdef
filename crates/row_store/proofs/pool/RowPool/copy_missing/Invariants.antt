use Rattle.row_store.specs.Pools.{AreMergedTo}
use Rattle.row_store.proofs.pool.RowPool.copy_missing.Given as goal

abbrev pub invariant-loop-place : goal.invariant-loop-place
invariant-loop-place l = AreMergedTo l.fn.self l.other l.self l.place
