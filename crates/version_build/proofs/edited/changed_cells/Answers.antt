use Rattle.std.proofs.Common.{arith}
use Rattle.version_build.proofs.Differences.{changed_all}
use Rattle.version_build.proofs.edited.changed_cells.Goals as goal

pub returns : goal.returns
returns c = changed_all c.args.old.now c.args.new.now _ _ (omega (arith, c.loop-row-test.false, c.height-row-end.ensures.height)) c.loop-row.invariant
