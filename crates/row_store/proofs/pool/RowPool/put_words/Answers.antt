use Rattle.std.proofs.Common.{◌≡◌, length, ap, ◌∙◌, rules}
use Rattle.std.proofs.lemmas.List.{length-append}
use Rattle.row_store.proofs.Spans.{counted, can_be_span, row_has_span, spans_put, rows_put}
use Rattle.row_store.proofs.pool.RowPool.put_words.Goals as goal

pub span_from-span-requires : goal.span_from-span-requires
span_from-span-requires c =
    let block : c.len-block.result ≡ length c.self.inside.closed.items = search rules in
    let start : c.len-start.result ≡ length c.self.inside.words.items = search rules in
    let end : c.len.result ≡ length c.extend_from_slice.new.self.items = search rules in
    let size = ap length c.in_ok-extend_from_slice.ensures.items ∙ length-append c.self.inside.words.items c.args.words.now in
    rw (counted (λ block. block.items) _ _ block, start, end) (can_be_span _ _ _ _ _ c.self.invariant size c.requires.few)

pub invariant_of-self-2 : goal.invariant_of-self-2
invariant_of-self-2 c =
    let home : c.span_from-span.result.block ≡ length c.self.inside.closed.items = search rules in
    let within = row_has_span _ _ c.args.place (rw (← c.self.view_is) at c.requires.place) in
    let empty = rw (← c.self.view_is) at c.requires.empty in
    rw c.in_ok-extend_from_slice.ensures.items
    (spans_put _ _ _ _ c.self.invariant c.span_from-span.result (counted (λ block. block.items) _ _ home) (search rules) (search rules) c.requires.few _ within empty)

pub returns-clause-ok : goal.returns-clause-ok
returns-clause-ok c =
    let home : c.span_from-span.result.block ≡ length c.self.inside.closed.items = search rules in
    let within = row_has_span _ _ c.args.place (rw (← c.self.view_is) at c.requires.place) in
    let empty = rw (← c.self.view_is) at c.requires.empty in
    rw (← c.self.view_is, c.in_ok-extend_from_slice.ensures.items)
    (rows_put _ _ _ _ c.self.invariant c.span_from-span.result (counted (λ block. block.items) _ _ home) (search rules) (search rules) c.requires.few _ within empty)
