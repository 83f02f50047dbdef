use Rattle.std.proofs.Common.{◌≡◌, map, ◌∙◌}
use Rattle.std.proofs.lemmas.List.{get_or_default}
use Rattle.row_store.specs.Layout.{block_numbered, blocks_of, nowhere}
use Rattle.row_store.proofs.Spans.{row_has_span, row_read}
use Rattle.row_store.proofs.pool.RowPool.row.Goals as goal

pub returns-clause-row : goal.returns-clause-row
returns-clause-row c =
    let spans = c.self.inside.spans.items in
    let blocks = blocks_of (map (λ block. block.items) c.self.inside.closed.items) c.self.inside.words.items in
    let within = row_has_span blocks spans c.args.place (rw (← c.self.view_is) at c.requires) in
    let span = c.index-span.ensures ∙ get_or_default spans c.args.place c.index-span.result.now nowhere within in
    let block : c.block_at-block.result.now ≡ block_numbered blocks c.index-span.result.now.block =
    rw (c.deref.ensures.value, c.deref-2.ensures.value, c.from.ensures) at c.block_at-block.ensures in
    rw (← c.self.view_is, c.from-2.ensures) (row_read _ _ _ _ _ within span block)
