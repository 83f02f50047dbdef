use Rattle.std.proofs.Common.{ltb, ◌∙◌, w32}
use Rattle.lane_rows.proofs.Vectors.{length_chosen, chosen, cond_is_min}
use Rattle.lane_rows.proofs.kernels.lesser.Goals as goal

pub returns-clause-lanes : goal.returns-clause-lanes
returns-clause-lanes c = length_chosen w32 ltb c.args.a c.args.b c.fits-a.0 c.fits-b.0 c.args.a c.args.b c.fits-a.0 c.fits-b.0

pub returns-clause-least : goal.returns-clause-least
returns-clause-least c = λ lane l. chosen w32 ltb c.args.a c.args.b c.fits-a.0 c.fits-b.0 c.args.a c.args.b c.fits-a.0 c.fits-b.0 lane l ∙ cond_is_min _ _
