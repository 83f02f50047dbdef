use Rattle.std.proofs.Common.{sym, ap, ◌∙◌, leb, cond, replicate, get_or, refl}
use Rattle.std.proofs.lemmas.Simd.{get_or-replicate}
use lib.Lanes.{top}
use Rattle.lane_rows.proofs.Vectors.{none_of, below_limit}
use Rattle.lane_rows.proofs.kernels.has_beyond.Goals as goal

pub returns : goal.returns
returns c = λ h lane l.
    below_limit (get_or c.args.keys lane 0) c.args.limit
    (ap (λ y. top 31 (cond (leb y (get_or c.args.keys lane 0)) 4294967295 0)) (sym (get_or-replicate 16 lane c.args.limit 0 l))
    ∙ none_of 31 (λ a b. cond (leb a b) 4294967295 0) (replicate 16 c.args.limit) c.args.keys refl c.fits-keys.0 h lane l)
