use Rattle.std.proofs.Common.{cond, eqb, get_or, ap, ◌∙◌}
use Rattle.lane_rows.specs.Equations.{far, lane_of}
use Rattle.lane_rows.proofs.Keys.{meets_key}
use Rattle.lane_rows.proofs.kernels.key_at.Goals as goal

pub returns-clause-meets : goal.returns-clause-meets
returns-clause-meets c = λ lane l.
    meets_key c.args.edges.now (lane_of c.args.keys.now lane) _ c.args.place _ _ _
    (λ move. c.lowest.ensures.at_most lane move l) (c.lowest.ensures.attained lane l) (c.cap.ensures.cap lane l ∙ ap (λ p. cond (eqb (get_or c.args.sources lane 0) p) 0 far) c.from.ensures) (c.lesser.ensures.least lane l)
