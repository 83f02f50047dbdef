use Rattle.std.proofs.Common.{◌+◌, ◌%◌, ◌^◌}
use Rattle.lane_rows.proofs.Vectors.{length_with, with_number}
use Rattle.lane_rows.proofs.kernels.raised.Goals as goal

pub returns-clause-lanes : goal.returns-clause-lanes
returns-clause-lanes c = length_with (λ a b. (a + b) % 2 ^ 32) c.args.a c.args.step c.fits-a.0

pub returns-clause-sum : goal.returns-clause-sum
returns-clause-sum c = λ lane l. with_number (λ a b. (a + b) % 2 ^ 32) c.args.a c.args.step c.fits-a.0 lane l
