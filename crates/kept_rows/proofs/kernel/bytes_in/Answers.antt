use Rattle.lane_rows.proofs.Sets.{byte_lane}
use Rattle.kept_rows.proofs.kernel.bytes_in.Goals as goal

pub returns-clause-bytes : goal.returns-clause-bytes
returns-clause-bytes c = λ lane. byte_lane c.args.sets lane c.fits-sets
