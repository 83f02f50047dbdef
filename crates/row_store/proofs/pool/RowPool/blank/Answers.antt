use Rattle.std.proofs.Common.{refl}
use Rattle.row_store.proofs.Spans.{rows_blank}
use Rattle.row_store.proofs.pool.RowPool.blank.Goals as goal

pub returns : goal.returns
returns c =
    let blank = rows_blank c.args.count (record { start = 0; len = 0; block = 0 }) refl in
    rw (c.new.ensures.items, c.new-2.ensures.items, c.in_ok-vec.ensures.items_if_clones_equal (λ y same. same)) blank
