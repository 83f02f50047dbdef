use Rattle.std.proofs.Common.{◌≡◌, ◌+◌, ◌*◌, ◌%◌, ◌^◌, ◌<◌, ◌≤◌, ap, subst, ◌∙◌}
use Rattle.root_cost.specs.Keys.{step_key}
use Rattle.moves.specs.Moves.{is_diagonal}
use Rattle.live_search.specs.Steps.{NotesStep}
use Rattle.live_search.proofs.Reaching.{reach_cheap, reach_dear, reach_fails, step_fits}
use Rattle.live_search.proofs.Stepwise.{goal_within}
use Rattle.live_search.proofs.expanding.reach.Goals as goal

pub returns-then-not-is_noted-clause-reaches : goal.returns-then-not-is_noted-clause-reaches
returns-then-not-is_noted-clause-reaches c =
    reach_fails c.args.live.now c.args.seek c.args.state.now c.is_noted.new.state c.args.leg (goal_within c.args.live.now c.args.seek c.requires.sought) c.requires.place c.requires.to
    (subst (NotesStep c.args.live.now c.args.seek c.args.state.now c.is_noted.new.state c.args.leg) c.if-not-is_noted.true c.is_noted.ensures.notes)

pub returns-then-cost-cost_at-clause-reaches : goal.returns-then-cost-cost_at-clause-reaches
returns-then-cost-cost_at-clause-reaches c =
    let key : c.step_key.result ≡ step_key (is_diagonal c.args.leg.by) = c.step_key.ensures.key ∙ ap step_key c.is_diagonal.ensures in
    reach_cheap c.args.live.now c.args.seek c.args.state.now c.is_noted.new.state c.args.leg (goal_within c.args.live.now c.args.seek c.requires.sought) c.requires.place c.requires.to
    c.lower.new.state
    (subst (NotesStep c.args.live.now c.args.seek c.args.state.now c.is_noted.new.state c.args.leg) c.if-not-is_noted.false c.is_noted.ensures.notes)
    ((c.args.leg.cost + c.step_key.result) % 2 ^ 32) (c.args.leg.place * 8 + c.from.result)
    (λ few. ap (λ s. (c.args.leg.cost + s) % 2 ^ 32) key ∙ step_fits c.args.leg.cost (is_diagonal c.args.leg.by) few)
    (ap (λ n. c.args.leg.place * 8 + n) (c.from.ensures ∙ c.number.ensures.number))
    (subst (λ x. (c.args.leg.cost + c.step_key.result) % 2 ^ 32 < x) c.cost_at.ensures c.if-cost-cost_at.true) c.lower.ensures.lowers

pub returns-else-cost-cost_at-clause-reaches : goal.returns-else-cost-cost_at-clause-reaches
returns-else-cost-cost_at-clause-reaches c =
    let key : c.step_key.result ≡ step_key (is_diagonal c.args.leg.by) = c.step_key.ensures.key ∙ ap step_key c.is_diagonal.ensures in
    reach_dear c.args.live.now c.args.seek c.args.state.now c.is_noted.new.state c.args.leg (goal_within c.args.live.now c.args.seek c.requires.sought) c.requires.place c.requires.to
    (subst (NotesStep c.args.live.now c.args.seek c.args.state.now c.is_noted.new.state c.args.leg) c.if-not-is_noted.false c.is_noted.ensures.notes)
    ((c.args.leg.cost + c.step_key.result) % 2 ^ 32)
    (λ few. ap (λ s. (c.args.leg.cost + s) % 2 ^ 32) key ∙ step_fits c.args.leg.cost (is_diagonal c.args.leg.by) few)
    (subst (λ x. x ≤ (c.args.leg.cost + c.step_key.result) % 2 ^ 32) c.cost_at.ensures c.if-cost-cost_at.false)
