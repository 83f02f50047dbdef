use Rattle.std.proofs.Common.{IfOk, subst}
use Rattle.moves.specs.Paths.{IsLeastCost}
use Rattle.versions.proofs.Refusals.{answered}
use Rattle.scen_run.proofs.Answering.{cost_answers, few_if_some}
use Rattle.scen_run.proofs.Querying.{ends_passable}
use Rattle.scen_run.proofs.queries.walk_cost.Goals as goal

pub unwrap-requires : goal.unwrap-requires
unwrap-requires c =
    let start = rw (c.from.ensures, c.from-2.ensures, c.requires.cells) at c.numbered-start.ensures in
    let end = rw (c.from-3.ensures, c.requires.cells) at c.numbered-goal.ensures in
    let ends = ends_passable c.args.version.now.map _ _ c.args.seed c.args.query _ _ c.grid.ensures.map c.width.ensures.limits c.width.ensures.whole c.requires.cells c.requires.some start end in
    answered _ _ _ _ ends c.measure.ensures.refused

pub returns-clause-cost : goal.returns-clause-cost
returns-clause-cost c =
    let start = rw (c.from.ensures, c.from-2.ensures, c.requires.cells) at c.numbered-start.ensures in
    let end = rw (c.from-3.ensures, c.requires.cells) at c.numbered-goal.ensures in
    let ends = ends_passable c.args.version.now.map _ _ c.args.seed c.args.query _ _ c.grid.ensures.map c.width.ensures.limits c.width.ensures.whole c.requires.cells c.requires.some start end in
    let least = subst (λ r. IfOk r (IsLeastCost c.args.version.now.map c.numbered-start.result c.numbered-goal.result)) c.unwrap.ensures c.measure.ensures.cost in
    let of = cost_answers c.args.version.now c.grid.ensures.version c.numbered-start.result c.numbered-goal.result ends c.unwrap.result least in
    rw (start, end) at of

pub returns-clause-few : goal.returns-clause-few
returns-clause-few c =
    let start = rw (c.from.ensures, c.from-2.ensures, c.requires.cells) at c.numbered-start.ensures in
    let end = rw (c.from-3.ensures, c.requires.cells) at c.numbered-goal.ensures in
    let ends = ends_passable c.args.version.now.map _ _ c.args.seed c.args.query _ _ c.grid.ensures.map c.width.ensures.limits c.width.ensures.whole c.requires.cells c.requires.some start end in
    let least = subst (λ r. IfOk r (IsLeastCost c.args.version.now.map c.numbered-start.result c.numbered-goal.result)) c.unwrap.ensures c.measure.ensures.cost in
    let of = cost_answers c.args.version.now c.grid.ensures.version c.numbered-start.result c.numbered-goal.result ends c.unwrap.result least in
    few_if_some _ c.grid.ensures.version _ _ _ of
