use Rattle.std.proofs.Common.{◌+◌, ◌*◌, ap, subst, length, arith}
use Rattle.follow_node.specs.Reading.{BeginsWithNoEdit}
use Rattle.follow_node.proofs.EditBytes.{all_from, edits_stuck, one_edit_more}
use Rattle.follow_node.proofs.edits.read_edits.Goals as goal

pub returns-in_default-clause-none : goal.returns-in_default-clause-none
returns-in_default-clause-none c = λ _.
    edits_stuck _ _ _ _ _ c.loop.invariant.0 c.loop-test.true
    (subst BeginsWithNoEdit (all_from c.loop.at c.args.bytes.now) c.in_default.ensures.none)

pub loop-preserved : goal.loop-preserved
loop-preserved c = (
  one_edit_more _ _ _ _ _ _ _ _ c.in-Some.edit c.loop.invariant.0 c.loop-test.true (ap (λ l. l.edits) c.push_reserved.ensures)
      (all_from c.loop.at c.args.bytes.now) c.in-Some.ensures.some c.in-Some.ensures.fits c.in-Some.ensures.sent
      (ap (λ l. c.loop.at + (1 + 5 * length l)) c.changes.ensures.changes),
  omega (arith, c.loop.invariant.1, c.loop-test.true, ap (λ l. l.spare) c.push_reserved.ensures),
)
