use Rattle.std.proofs.Common.{MatchOption, subst}
use Rattle.moves.specs.Paths.{Reaches}
use Rattle.near_rows.specs.NearWalks.{BeginsNearWalk}
use Rattle.near_rows.proofs.near_walk.measure.Goals as goal

pub cost_ahead-requires : goal.cost_ahead-requires
cost_ahead-requires c =
    let begins = subst (λ found. MatchOption found (Reaches c.args.near.now.version.map c.args.start c.args.goal → ⊥) (BeginsNearWalk c.args.near.now c.args.start c.args.goal))
    c.in-Some.is c.in_ok-start.ensures.walk in
    (begins.moves, begins.ahead, begins.few)
