use Rattle.std.proofs.Common.{◌≡◌, length, rules}
use Rattle.row_store.proofs.Spans.{counted, sets_can_be_span, row_has_span, spans_put_sets, rows_put_sets}
use Rattle.row_store.proofs.pool.RowPool.put_sets.Goals as goal

pub span_from-requires : goal.span_from-requires
span_from-requires c =
    let block : c.len-block.result ≡ length c.self.inside.closed.items = search rules in
    let start : c.len-start.result ≡ length c.self.inside.words.items = search rules in
    let end : c.len.result ≡ length c.append_words.new.words.items = search rules in
    rw (counted (λ block. block.items) _ _ block, start, end)
    (sets_can_be_span _ _ _ _ _ c.self.invariant c.requires.sets.few c.in_ok-append_words.ensures.ok)

pub invariant_of-self-2 : goal.invariant_of-self-2
invariant_of-self-2 c =
    let home : c.span_from.result.block ≡ length c.self.inside.closed.items = search rules in
    let within = row_has_span _ _ c.args.place (rw (← c.self.view_is) at c.requires.place) in
    let empty = rw (← c.self.view_is) at c.requires.empty in
    spans_put_sets _ _ _ _ _ c.self.invariant c.requires.sets.few c.in_ok-append_words.ensures.ok
    c.span_from.result (counted (λ block. block.items) _ _ home) (search rules) (search rules) _ within empty

pub returns-clause-ok : goal.returns-clause-ok
returns-clause-ok c =
    let home : c.span_from.result.block ≡ length c.self.inside.closed.items = search rules in
    let within = row_has_span _ _ c.args.place (rw (← c.self.view_is) at c.requires.place) in
    let empty = rw (← c.self.view_is) at c.requires.empty in
    rw (← c.self.view_is)
    (rows_put_sets _ _ _ _ _ c.self.invariant c.requires.sets.few c.in_ok-append_words.ensures.ok
    c.span_from.result (counted (λ block. block.items) _ _ home) (search rules) (search rules) _ within empty)
