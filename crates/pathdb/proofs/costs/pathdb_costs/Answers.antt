use Rattle.std.proofs.Common.{rules, subst}
use Rattle.pathdb.specs.Costs.{IsCostFor, goal_at}
use Rattle.pathdb.proofs.ManyCosts.{costs_more}
use Rattle.pathdb.proofs.costs.pathdb_costs.Goals as goal

pub loop-number-preserved : goal.loop-number-preserved
loop-number-preserved c =
    let goals = c.args.goals.now in
    let here = goal_at goals c.loop-number.number in
    let found = c.cost_for.result in
    let is = subst (λ at. IsCostFor c.args.words.now at here found) c.cell.ensures
    (subst (λ to. IsCostFor c.args.words.now c.cell.result to found) c.cell-in-loop-number.ensures c.cost_for.ensures) in
    costs_more _ _ _ _ c.loop-number.costs _ c.loop-number.number found c.loop-number.invariant (search rules) is (search rules)
