use Rattle.std.proofs.Common.{cond, eqb, not}
use Rattle.lane_rows.proofs.Vectors.{none_of, equal_keys}
use Rattle.lane_rows.proofs.kernels.keys_differ.Goals as goal

pub returns : goal.returns
returns c = λ h lane l. equal_keys _ _ (none_of 31 (λ a b. cond (not (eqb a b)) 4294967295 0) c.args.old c.args.new c.fits-old.0 c.fits-new.0 h lane l)
