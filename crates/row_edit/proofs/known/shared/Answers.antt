use Rattle.row_edit.proofs.Reading.{shared_none, shared_more}
use Rattle.row_edit.proofs.known.shared.Goals as goal
use Rattle.row_edit.proofs.known.shared.Goals.{then-from-one+then-one-upto, else-from-one}

pub loop-one-init : goal.loop-one-init
loop-one-init c = shared_none c.args.known.now c.args.from c.args.upto

pub loop-one-preserved : goal.loop-one-preserved
loop-one-preserved c =
    elim c.if-from-one.branch [
      | then-from-one+then-one-upto w ↦
          rw w.all-is (shared_more c.args.known.now c.args.from c.args.upto c.loop-one.all c.loop-one.one-index _ c.loop-one.invariant c.loop-one-test.true w.if-from-one.true w.if-one-upto.true)
      | else-from-one w ↦ rw w.all-is c.loop-one.invariant
    ]
