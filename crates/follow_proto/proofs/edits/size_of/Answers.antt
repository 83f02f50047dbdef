use Rattle.std.proofs.Common.{[], drop, sym, ◌∙◌, arith}
use Rattle.std.proofs.lemmas.List.{get_or-drop, length-drop}
use Rattle.follow_proto.proofs.Several.{one_more_counted}
use Rattle.follow_proto.proofs.edits.size_of.Goals as goal

pub loop-place-preserved : goal.loop-place-preserved
loop-place-preserved c =
    let left = length-drop c.args.first c.args.edits.now.edits in
    one_more_counted (drop c.args.first c.args.edits.now.edits) c.loop-place.place _ _ c.loop-place.invariant
    (omega (arith, c.loop-place-test.true, c.requires.some, left))
    (c.changes_at.ensures.changes ∙ sym (get_or-drop c.args.first c.args.edits.now.edits c.loop-place.place [])) c.changes_at.ensures.few
