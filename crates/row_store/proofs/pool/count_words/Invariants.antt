use Rattle.std.proofs.Common.{◌≡◌, ◌+◌, length, sum_by, take}
use Rattle.row_store.proofs.pool.count_words.Given as goal

abbrev pub invariant-loop-block : goal.invariant-loop-block
invariant-loop-block l = l.count ≡ length l.words + sum_by (λ block. length block.items) (take l.block-index l.closed)
