use Rattle.std.proofs.Common.{◌<◌, ◌≤◌, slice_index, sym, subst, ◌∙◌, arith}
use Rattle.std.proofs.lemmas.Bool.{false≢true}
use Rattle.live_search.specs.Steps.{Reaches}
use Rattle.live_search.proofs.Reaching.{looks_more, looks_past}
use Rattle.live_search.proofs.expanding.look_along.Goals as goal

pub returns-then-to-seek-clause-looks : goal.returns-then-to-seek-clause-looks
returns-then-to-seek-clause-looks c =
    let far = subst (λ n. c.args.seek.size ≤ slice_index c.args.near.now n) c.from.ensures c.if-to-seek.true in
    looks_past c.args.live.now c.args.seek c.args.near.now c.args.look c.args.state.now (λ both. (let near = both.0 in omega arith))

pub returns-then-not-has_corners-clause-looks : goal.returns-then-not-has_corners-clause-looks
returns-then-not-has_corners-clause-looks c =
    looks_past c.args.live.now c.args.seek c.args.near.now c.args.look c.args.state.now
    (λ both. false≢true (sym c.if-not-has_corners.true ∙ c.has_corners.ensures.1 both.1))

pub returns-clause-looks : goal.returns-clause-looks
returns-clause-looks c =
    looks_more c.args.live.now c.args.seek c.args.near.now c.args.look c.args.state.now c.reach.new.state c.move_of.result c.reach.result c.move_of.ensures
    (subst (λ n. slice_index c.args.near.now n < c.args.seek.size) c.from.ensures c.if-to-seek.false) (c.has_corners.ensures.0 c.if-not-has_corners.false)
    (subst (λ n. Reaches c.args.live.now c.args.seek c.args.state.now c.reach.new.state
    (record { place = c.args.look.place; cell = c.args.look.cell; cost = c.args.look.cost; by = c.move_of.result; to = slice_index c.args.near.now n }) c.reach.result)
    c.from.ensures c.reach.ensures.reaches)
