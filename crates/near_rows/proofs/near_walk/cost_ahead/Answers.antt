use Rattle.std.proofs.Common.{◌+◌, ◌∙◌, subst, sym, ap, arith}
use Rattle.root_cost.specs.Costs.{plus_step}
use Rattle.near_rows.specs.NearWalks.{Advances}
use Rattle.near_rows.proofs.Measuring.{IsMeasured, measured_none, measured_more, measured_all}
use Rattle.near_rows.proofs.near_walk.cost_ahead.Goals as goal

pub loop-init : goal.loop-init
loop-init c = measured_none c.args.walk.now c.requires

pub plus-cost-requires-clause-straight : goal.plus-cost-requires-clause-straight
plus-cost-requires-clause-straight c = let steps = c.loop.invariant.steps in let inside = c.loop-test.true in omega arith

pub plus-cost-requires-clause-diagonal : goal.plus-cost-requires-clause-diagonal
plus-cost-requires-clause-diagonal c = let steps = c.loop.invariant.steps in let inside = c.loop-test.true in omega arith

pub returns-in-None : goal.returns-in-None
returns-in-None c = measured_all _ _ _ _ c.loop.invariant c.step.new.self (subst (Advances c.loop.walk c.step.new.self) c.in-None.is c.step.ensures)

pub loop-preserved : goal.loop-preserved
loop-preserved c =
    let step = subst (Advances c.loop.walk c.step.new.self) c.in-Some.is c.step.ensures in
    subst (λ cost. IsMeasured c.args.walk.now c.step.new.self cost (c.loop.counter + 1))
    (sym (c.plus-cost.ensures ∙ ap (plus_step c.loop.cost) c.is_diagonal.ensures))
    (measured_more _ _ _ _ c.loop.invariant c.step.new.self c.in-Some.by step)
