use Rattle.std.proofs.Common.{◌≡◌, List, [], drop, take, sym, subst, ap, ◌∙◌, arith}
use Rattle.std.proofs.lemmas.List.{get_or-drop, get_or-take, length-drop, length-take-le, take-take}
use Rattle.wire.proofs.Counting.{writes_on}
use Rattle.edit_log.specs.declared.edit.CellChange.{CellChange}
use Rattle.follow_proto.specs.Feeds.{all_edit_bytes, edit_bytes}
use Rattle.feed_node.specs.Sending.{Writes}
use Rattle.feed_node.proofs.Writing.{each_more, each_refused, on_err}
use Rattle.feed_node.proofs.sending.put_edits.Goals as goal

pub returns-in_err-put_edit-clause-prefix : goal.returns-in_err-put_edit-clause-prefix
returns-in_err-put_edit-clause-prefix g c =
    let place = c.loop-place.place in
    let count = c.args.count in
    let xs : List (List CellChange) = drop c.args.first c.args.edits.now.edits in
    let left = length-drop c.args.first c.args.edits.now.edits in
    let long = length-take-le count xs (omega (arith, left, c.requires)) in
    let same : take place (take count xs) ≡ take place xs = take-take place count xs (omega (arith, c.loop-place-test.true)) in
    let is = c.changes_at.ensures.changes ∙ sym (get_or-drop c.args.first c.args.edits.now.edits place []) ∙ sym (get_or-take count xs place [] (omega (arith, c.loop-place-test.true))) in
    on_err c.from_residual.result _
    (each_refused edit_bytes (take count xs) [] _ _ _ _ _ place
    (subst (λ l. Writes (g.L.Link.at c.args.link.now).talk (g.L.Link.at c.loop-place.link).talk c.args.parcel.now c.loop-place.parcel (all_edit_bytes l)) (sym same) c.loop-place.invariant.written)
    (omega (arith, long, c.loop-place-test.true)) _ (ap edit_bytes is) c.in_err-put_edit.ensures.prefix)

pub loop-place-preserved : goal.loop-place-preserved
loop-place-preserved g c =
    let place = c.loop-place.place in
    let xs : List (List CellChange) = drop c.args.first c.args.edits.now.edits in
    let left = length-drop c.args.first c.args.edits.now.edits in
    let is = c.changes_at.ensures.changes ∙ sym (get_or-drop c.args.first c.args.edits.now.edits place []) in
    record {
      written = each_more edit_bytes xs [] _ _ _ _ _ place c.loop-place.invariant.written (omega (arith, left, c.requires, c.loop-place-test.true)) _ _ (ap edit_bytes is)
          c.in_ok-put_edit.ensures.put;
      counts = writes_on _ _ _ c.loop-place.invariant.counts c.in_ok-put_edit.ensures.counts;
    }
