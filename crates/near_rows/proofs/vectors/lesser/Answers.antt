use Rattle.std.proofs.Common.{ltb, ◌∙◌, w16}
use Rattle.lane_rows.proofs.Vectors.{chosen, cond_is_min}
use Rattle.near_rows.proofs.vectors.lesser.Goals as goal

pub returns : goal.returns
returns c = λ lane l. chosen w16 ltb c.args.a c.args.b c.fits-a.0 c.fits-b.0 c.args.a c.args.b c.fits-a.0 c.fits-b.0 lane l ∙ cond_is_min _ _
