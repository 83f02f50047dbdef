use Rattle.std.proofs.Common.{inl, inr}
use Rattle.lane_rows.proofs.Vectors.{all_equal_but}
use Rattle.lane_rows.proofs.Sets.{all_is_full}
use Rattle.lane_rows.proofs.kernels.sets_differ.Goals as goal

pub returns : goal.returns
returns c = λ h lane l. elim (all_equal_but c.args.old c.args.new 255 c.fits-old.0 c.fits-new.0 h lane l) [ inl e ↦ inl e | inr e ↦ inr (all_is_full _ e) ]
