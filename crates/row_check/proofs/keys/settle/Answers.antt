use Rattle.std.proofs.Common.{arith}
use Rattle.row_check.proofs.Arriving.{settling_more}
use Rattle.row_check.proofs.keys.settle.Goals as goal

pub loop-keys-preserved : goal.loop-keys-preserved
loop-keys-preserved c =
    rw c.from-at.ensures
    (settling_more c.args.cursors.now c.args.target c.requires.follow c.args.keys.now c.loop-keys.keys c.args.from c.loop-keys.at c.loop-keys.rest c.loop-keys.invariant (omega (arith, c.loop-keys-test.true)))
