use Rattle.std.proofs.Common.{MatchOption, subst}
use Rattle.moves.specs.Paths.{Reaches}
use Rattle.walker.specs.Walks.{BeginsWalk}
use Rattle.walker.proofs.measure.Goals as goal

pub cost_ahead-requires : goal.cost_ahead-requires
cost_ahead-requires c =
    let begins = subst (λ found. MatchOption found (Reaches c.args.version.now.map c.args.start c.args.goal → ⊥) (BeginsWalk c.args.version.now c.args.start c.args.goal))
    c.in-Some.is c.in_ok-start.ensures.walk in
    (begins.moves, begins.ahead, begins.few)
