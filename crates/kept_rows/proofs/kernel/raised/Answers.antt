use Rattle.std.proofs.Common.{◌+◌, ◌%◌, ◌^◌}
use Rattle.lane_rows.proofs.Vectors.{with_number}
use Rattle.kept_rows.proofs.kernel.raised.Goals as goal

pub returns : goal.returns
returns c = λ lane l. with_number (λ a b. (a + b) % 2 ^ 32) c.args.keys c.args.step c.fits-keys.0 lane l
