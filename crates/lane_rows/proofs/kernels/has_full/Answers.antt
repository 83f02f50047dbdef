use Rattle.lane_rows.proofs.Vectors.{none_equal}
use Rattle.lane_rows.proofs.Sets.{byte_lane, full_is_all}
use Rattle.lane_rows.proofs.kernels.has_full.Goals as goal

pub returns : goal.returns
returns c = λ h lane l full. none_equal c.args.set 255 c.fits-set.0 h lane l (full_is_all _ (byte_lane c.args.set lane c.fits-set) full)
