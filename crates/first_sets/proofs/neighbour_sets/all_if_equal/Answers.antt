use Rattle.first_sets.proofs.Besides.{none_if_apart}
use Rattle.first_sets.proofs.neighbour_sets.all_if_equal.Goals as goal

pub returns-clause-unequal : goal.returns-clause-unequal
returns-clause-unequal c = none_if_apart c.args.a c.args.b c.requires.a c.requires.b
