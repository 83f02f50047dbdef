use Rattle.std.proofs.Common.{◌≡◌, ◌<◌, ◌+◌, length, refl, rules}
use Rattle.row_store.specs.declared.pool.TheConstants.{MAX_BLOCKS}
use Rattle.row_store.specs.Layout.{AreApart, AreFilled}
use Rattle.row_store.proofs.Spans.{on_err, spans_joined, rows_joined, unmerged}
use Rattle.row_store.proofs.pool.RowPool.take_blocks.Goals as goal

pub invariant_of-self-2 : goal.invariant_of-self-2
invariant_of-self-2 c =
    let size = rw (← c.self.view_is, ← c.other.view_is) at c.requires in
    let counted : c.len-blocks.result + 1 ≡ length c.self.inside.closed.items + 1 = search rules in
    let room : c.len-blocks.result + 1 + length c.other.inside.closed.items < MAX_BLOCKS = search rules in
    let apart : AreApart c.self.inside.spans.items c.other.inside.spans.items (length c.self.inside.spans.items) =
    rw (c.deref.ensures.value, c.deref-else-blocks-len-ge-MAX_BLOCKS.ensures.value) at (c.are_apart.ensures.0 c.if-not-are_apart.false) in
    let filled : AreFilled (c.len-blocks.result + 1) c.self.inside.spans.items c.other.inside.spans.items c.fill_spans.new.own.items (length c.self.inside.spans.items) =
    rw c.deref-2.ensures.value at c.fill_spans.ensures in
    rw c.in_ok-append_blocks.ensures.ok.1
    (spans_joined (λ block. block.items) _ _ _ _ _ _ c.self.invariant c.other.invariant size _ counted room
    _ _ _ c.in_ok-append_blocks.ensures.ok.0 c.shrink_to_fit.ensures.items apart filled)

pub returns-clause-merged : goal.returns-clause-merged
returns-clause-merged c =
    let size = rw (← c.self.view_is, ← c.other.view_is) at c.requires in
    let counted : c.len-blocks.result + 1 ≡ length c.self.inside.closed.items + 1 = search rules in
    let room : c.len-blocks.result + 1 + length c.other.inside.closed.items < MAX_BLOCKS = search rules in
    let apart : AreApart c.self.inside.spans.items c.other.inside.spans.items (length c.self.inside.spans.items) =
    rw (c.deref.ensures.value, c.deref-else-blocks-len-ge-MAX_BLOCKS.ensures.value) at (c.are_apart.ensures.0 c.if-not-are_apart.false) in
    let filled : AreFilled (c.len-blocks.result + 1) c.self.inside.spans.items c.other.inside.spans.items c.fill_spans.new.own.items (length c.self.inside.spans.items) =
    rw c.deref-2.ensures.value at c.fill_spans.ensures in
    rw (← c.self.view_is, ← c.other.view_is, c.in_ok-append_blocks.ensures.ok.1)
    (rows_joined (λ block. block.items) _ _ _ _ _ _ c.self.invariant c.other.invariant size _ counted room
    _ _ _ c.in_ok-append_blocks.ensures.ok.0 c.shrink_to_fit.ensures.items apart filled)

pub returns-in_err-append_blocks-clause-refused : goal.returns-in_err-append_blocks-clause-refused
returns-in_err-append_blocks-clause-refused c =
    let kept = c.append_blocks.ensures.refused in
    let same : (c.append_blocks.new.closed.items ≡ c.self.inside.closed.items) × (c.append_blocks.new.words.items ≡ c.self.inside.words.items) = search rules in
    on_err _ c.from_residual.result (rw (← c.self.view_is, same.0, same.1) (unmerged _ _ _ refl))
