use Rattle.row_check.proofs.Arriving.{first_lost}
use Rattle.row_check.proofs.keys.find_keys.Goals as goal

pub returns-in-None-clause-lost : goal.returns-in-None-clause-lost
returns-in-None-clause-lost c =
    first_lost c.args.cursors.now c.args.target c.requires.follow c.loop-place.keys c.loop-place.place c.loop-place.invariant c.loop-place-test.true c.in-None.ensures.none
