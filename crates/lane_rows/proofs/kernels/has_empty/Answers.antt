use Rattle.lane_rows.proofs.Vectors.{none_equal}
use Rattle.lane_rows.proofs.kernels.has_empty.Goals as goal

pub returns : goal.returns
returns c = λ h lane l. none_equal c.args.set 0 c.fits-set.0 h lane l
