use Rattle.std.proofs.Common.{cond, eqb}
use Rattle.row_check.proofs.Lanes.{is_byte, has_equal}
use Rattle.row_check.proofs.offers.equal_lanes.Goals as goal

pub overflow_cast-result : goal.overflow_cast-result
overflow_cast-result c =
    record { fits = is_byte (λ a b. cond (eqb a b) 4294967295 0) c.args.there c.args.wanted c.requires.lanes.0 c.requires.lanes.1 }

pub returns : goal.returns
returns c = has_equal c.args.there c.args.wanted c.requires.lanes.0 c.requires.lanes.1
