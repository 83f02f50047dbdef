use Rattle.std.proofs.Common.{eqb, arith, ◌∙◌}
use Rattle.lane_rows.proofs.Vectors.{length_picked, each_picked, picked_through}
use Rattle.std.proofs.lemmas.List.{length-map}
use Rattle.lane_rows.proofs.kernels.equal_lanes.Goals as goal

pub overflow_cast-result : goal.overflow_cast-result
overflow_cast-result c = each_picked eqb c.args.a c.args.b c.fits-a.0 c.fits-b.0 255 0 _ (record { fits = omega arith }) (record { fits = omega arith })

pub returns-clause-lanes : goal.returns-clause-lanes
returns-clause-lanes c = length-map _ _ ∙ length_picked eqb c.args.a c.args.b c.fits-a.0 c.fits-b.0 255 0

pub returns-clause-equal : goal.returns-clause-equal
returns-clause-equal c = λ lane l. picked_through eqb c.args.a c.args.b c.fits-a.0 c.fits-b.0 255 0 (λ x. x) lane l
