use Rattle.std.proofs.Common.{arith}
use Rattle.row_edit.proofs.TakingOut.{without_kept, without_gone}
use Rattle.row_edit.proofs.without.parts_without.Goals as goal

pub returns-then-stays_whole : goal.returns-then-stays_whole
returns-then-stays_whole c =
    let cut = c.stays_cut.ensures c.if-not-stays_cut.false in
    let whole = c.stays_whole.ensures c.if-stays_whole.true in
    rw c.staying.ensures (without_kept _ _ _ _ _ c.in_ok-span.ensures cut (λ k. (c.type_inv.words k).fits) whole (omega (arith, c.if-span-gt1.true)))

pub returns : goal.returns
returns c =
    let spans = c.in_ok-span.ensures in
    let cut = c.stays_cut.ensures c.if-not-stays_cut.false in
    without_gone _ _ _ _ _ spans cut (λ k. (c.type_inv.words k).fits) (omega (arith, c.if-span-gt1.false, spans.from, spans.upto)) (omega (arith, c.if-places-lt2.false))
