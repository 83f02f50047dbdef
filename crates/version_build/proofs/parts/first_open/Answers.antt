use Rattle.std.proofs.Common.{arith}
use Rattle.version_build.proofs.RowByRow.{none_left}
use Rattle.version_build.proofs.parts.first_open.Goals as goal

pub returns-clause-below : goal.returns-clause-below
returns-clause-below c = absurd (let none = none_left _ _ c.loop-label.invariant (omega (arith, c.loop-label-test.false)) in omega (arith, c.requires.left))

pub returns-clause-left : goal.returns-clause-left
returns-clause-left c = absurd (let none = none_left _ _ c.loop-label.invariant (omega (arith, c.loop-label-test.false)) in omega (arith, c.requires.left))
