use Rattle.std.proofs.Common.{◌≤◌, get_or, subst, sym, ltb, w32}
use Rattle.lane_rows.proofs.Vectors.{chosen, none_above}
use Rattle.lane_rows.proofs.kernels.greater.Goals as goal

pub returns-clause-first : goal.returns-clause-first
returns-clause-first c = λ lane l.
    subst (λ k. get_or c.args.a lane 0 ≤ k) (sym (chosen w32 ltb c.args.a c.args.b c.fits-a.0 c.fits-b.0 c.args.b c.args.a c.fits-b.0 c.fits-a.0 lane l))
    (none_above (get_or c.args.a lane 0) (get_or c.args.b lane 0)).0

pub returns-clause-second : goal.returns-clause-second
returns-clause-second c = λ lane l.
    subst (λ k. get_or c.args.b lane 0 ≤ k) (sym (chosen w32 ltb c.args.a c.args.b c.fits-a.0 c.fits-b.0 c.args.b c.args.a c.fits-b.0 c.fits-a.0 lane l))
    (none_above (get_or c.args.a lane 0) (get_or c.args.b lane 0)).1
