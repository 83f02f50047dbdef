use Rattle.std.proofs.Common.{sym, ◌∙◌, arith}
use Rattle.row_store.proofs.Spans.{count_of_words, few_words}
use Rattle.row_store.proofs.pool.RowPool.runs.Goals as goal

pub count_words-requires : goal.count_words-requires
count_words-requires c =
    rw (c.deref.ensures.value, c.deref-2.ensures.value) (omega (arith, few_words _ _ c.self.invariant))

pub returns : goal.returns
returns c =
    let count = rw (c.deref.ensures.value, c.deref-2.ensures.value) at c.count_words.ensures in
    rw (← c.self.view_is) (count ∙ sym (count_of_words _ _ c.self.invariant))
