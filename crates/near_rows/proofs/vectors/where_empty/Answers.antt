use Rattle.std.proofs.Common.{eqb, cond, replicate, get_or, refl, ap, ◌∙◌, w16}
use Rattle.std.proofs.lemmas.Simd.{get_or-replicate}
use Rattle.lane_rows.proofs.Vectors.{chosen}
use Rattle.near_rows.proofs.vectors.where_empty.Goals as goal

pub returns : goal.returns
returns c = λ lane l.
    chosen w16 eqb c.args.sets (replicate 16 0) c.fits-sets.0 refl c.args.numbers (replicate 16 c.args.other) c.fits-numbers.0 refl lane l
    ∙ ap (λ z. cond (eqb (get_or c.args.sets lane 0) z) (get_or c.args.numbers lane 0) (get_or (replicate 16 c.args.other) lane 0)) (get_or-replicate 16 lane 0 0 l)
    ∙ ap (λ z. cond (eqb (get_or c.args.sets lane 0) 0) (get_or c.args.numbers lane 0) z) (get_or-replicate 16 lane c.args.other 0 l)
