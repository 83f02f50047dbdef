use Rattle.std.proofs.Common.{◌+◌, ◌-◌, ◌%◌, ◌^◌}
use Rattle.lane_rows.proofs.Vectors.{length_with, with_number}
use Rattle.lane_rows.proofs.kernels.lowered.Goals as goal

pub returns-clause-lanes : goal.returns-clause-lanes
returns-clause-lanes c = length_with (λ a b. (a + (2 ^ 32 - b)) % 2 ^ 32) c.args.a c.args.step c.fits-a.0

pub returns-clause-rest : goal.returns-clause-rest
returns-clause-rest c = λ lane l. with_number (λ a b. (a + (2 ^ 32 - b)) % 2 ^ 32) c.args.a c.args.step c.fits-a.0 lane l
