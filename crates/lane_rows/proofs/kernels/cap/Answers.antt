use Rattle.std.proofs.Common.{cond, eqb, refl, replicate, get_or, ap, ◌∙◌}
use Rattle.std.proofs.lemmas.Simd.{get_or-replicate}
use Rattle.lane_rows.proofs.Vectors.{length_picked, pick_at}
use Rattle.lane_rows.proofs.kernels.cap.Goals as goal

pub returns-clause-lanes : goal.returns-clause-lanes
returns-clause-lanes c = length_picked eqb c.args.sources (replicate 16 c.args.place) c.fits-sources.0 refl 0 2147483648

pub returns-clause-cap : goal.returns-clause-cap
returns-clause-cap c = λ lane l.
    pick_at eqb c.args.sources (replicate 16 c.args.place) c.fits-sources.0 refl 0 2147483648 lane l
    ∙ ap (λ p. cond (eqb (get_or c.args.sources lane 0) p) 0 2147483648) (get_or-replicate 16 lane c.args.place 0 l)
