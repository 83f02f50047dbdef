use Rattle.std.proofs.Common.{◌≡◌, [], ◌∷◌, ◌++◌, length, ap, ◌∙◌, rules}
use Rattle.std.proofs.lemmas.List.{length-append}
use Rattle.row_store.specs.declared.pool.Span.{Span}
use Rattle.row_store.proofs.Spans.{counted, can_be_span, room_for_span, spans_pushed, rows_pushed}
use Rattle.row_store.proofs.pool.RowPool.push_words.Goals as goal

pub span_from-requires : goal.span_from-requires
span_from-requires c =
    let block : c.len-block.result ≡ length c.self.inside.closed.items = search rules in
    let start : c.len-start.result ≡ length c.self.inside.words.items = search rules in
    let end : c.len.result ≡ length c.extend_from_slice.new.self.items = search rules in
    let size = ap length c.in_ok-extend_from_slice.ensures.items ∙ length-append c.self.inside.words.items c.args.words.now in
    rw (counted (λ block. block.items) _ _ block, start, end) (can_be_span _ _ _ _ _ c.self.invariant size c.requires.few)

pub invariant_of-self-2 : goal.invariant_of-self-2
invariant_of-self-2 c =
    let home : c.span_from.result.block ≡ length c.self.inside.closed.items = search rules in
    let span : Span = c.span_from.result in
    let pushed = c.in_ok-push.ensures.items ∙ ap (λ xs. xs ++ span ∷ []) c.in_ok-reserve.ensures.items in
    let room = room_for_span _ _ (rw (← c.self.view_is) at c.requires.rows) in
    rw (c.in_ok-extend_from_slice.ensures.items, pushed)
    (spans_pushed _ _ _ _ c.self.invariant span (counted (λ block. block.items) _ _ home) (search rules) (search rules) c.requires.few room)

pub returns-clause-ok : goal.returns-clause-ok
returns-clause-ok c =
    let home : c.span_from.result.block ≡ length c.self.inside.closed.items = search rules in
    let span : Span = c.span_from.result in
    let pushed = c.in_ok-push.ensures.items ∙ ap (λ xs. xs ++ span ∷ []) c.in_ok-reserve.ensures.items in
    rw (← c.self.view_is, c.in_ok-extend_from_slice.ensures.items, pushed)
    (rows_pushed _ _ _ _ c.self.invariant span (counted (λ block. block.items) _ _ home) (search rules) (search rules) c.requires.few)
