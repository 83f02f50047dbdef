use Rattle.std.proofs.Common.{◌≡◌, ◌-◌, arith, rules, subst}
use Rattle.run_pack.specs.Sets.{Has}
use Rattle.row_edit.proofs.PuttingIn.{with_kept, cuts_first, cuts_behind}
use Rattle.row_edit.proofs.with_set.parts_with.Goals as goal

pub returns-then-has : goal.returns-then-has
returns-then-has c =
    let spans = c.in_ok-span.ensures in
    let before : c.saturating_sub.result ≡ c.args.put.place - 1 = search rules in
    let from = spans.from in
    let upto = spans.upto in
    let start = spans.is.start in
    let end = spans.is.end in
    rw c.staying.ensures (with_kept _ _ _ _ (omega (arith, c.if-places-ge-MAX_PLACES.false)) (omega (arith, c.if-put-places.false)) _ spans.is.within (omega arith) (omega arith)
    (subst (λ move. Has c.args.put.set move) spans.is.move (c.has.ensures c.if-has.true))
    (λ at. cuts_first _ _ _ _ _ spans.is (omega arith)))

pub parts_from-requires-clause-cut : goal.parts_from-requires-clause-cut
parts_from-requires-clause-cut c =
    let spans = c.in_ok-span.ensures in
    let before : c.saturating_sub.result ≡ c.args.put.place - 1 = search rules in
    let from = spans.from in
    cuts_first _ _ _ _ _ spans.is (omega (arith, c.if-put-eq0-2.true))

pub parts_from-requires-then-ends_at-clause-cut : goal.parts_from-requires-then-ends_at-clause-cut
parts_from-requires-then-ends_at-clause-cut c =
    cuts_behind _ _ _ _ _ c.in_ok-span.ensures.is c.if-put-span.true (c.ends_at.ensures c.if-ends_at.true)
