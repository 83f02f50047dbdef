use Rattle.std.proofs.Common.{arith}
use Rattle.row_check.proofs.Offering.{sets_all}
use Rattle.row_check.proofs.offers.find_sets.Goals as goal

pub returns-clause-sets : goal.returns-clause-sets
returns-clause-sets c = sets_all _ _ _ _ _ c.loop-place.invariant (omega (arith, c.loop-place-test.false)) c.requires.target
