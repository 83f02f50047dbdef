use Rattle.std.proofs.Common.{eqb, arith}
use Rattle.lane_rows.proofs.Vectors.{each_picked, picked_through}
use Rattle.kept_rows.proofs.kernel.equal_lanes.Goals as goal

pub overflow_cast-result : goal.overflow_cast-result
overflow_cast-result c = each_picked eqb c.args.a c.args.b c.fits-a.0 c.fits-b.0 255 0 _ (record { fits = omega arith }) (record { fits = omega arith })

pub returns : goal.returns
returns c = λ lane l. picked_through eqb c.args.a c.args.b c.fits-a.0 c.fits-b.0 255 0 (λ x. x) lane l
