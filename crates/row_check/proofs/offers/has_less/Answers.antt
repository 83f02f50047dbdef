use Rattle.row_check.proofs.Lanes.{none_less, some_less}
use Rattle.row_check.proofs.offers.has_less.Goals as goal

pub returns-clause-some : goal.returns-clause-some
returns-clause-some c = some_less c.args.there c.args.wanted c.requires.lanes.0 c.requires.lanes.1

pub returns-clause-none : goal.returns-clause-none
returns-clause-none c = none_less c.args.there c.args.wanted c.requires.lanes.0 c.requires.lanes.1
