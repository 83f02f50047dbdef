use Rattle.std.proofs.Common.{ltb, ◌∙◌, w16}
use Rattle.lane_rows.proofs.Vectors.{chosen}
use Rattle.near_rows.proofs.Choices.{cond_is_max}
use Rattle.near_rows.proofs.vectors.greater.Goals as goal

pub returns : goal.returns
returns c = λ lane l. chosen w16 ltb c.args.a c.args.b c.fits-a.0 c.fits-b.0 c.args.b c.args.a c.fits-b.0 c.fits-a.0 lane l ∙ cond_is_max _ _
