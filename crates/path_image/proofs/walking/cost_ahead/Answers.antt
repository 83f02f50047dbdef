use Rattle.std.proofs.Common.{◌+◌, ap, sym, subst, ◌∙◌, arith}
use Rattle.root_cost.specs.Costs.{plus_step}
use Rattle.moves.specs.Moves.{is_diagonal}
use Rattle.moves.proofs.CostsOfPaths.{cost_of-push, moves_of_cost}
use Rattle.path_image.specs.Walks.{Advances}
use Rattle.path_image.proofs.Following.{CostIs, followed_more, never_long}
use Rattle.path_image.proofs.walking.cost_ahead.Goals as goal

pub plus-cost-requires-clause-straight : goal.plus-cost-requires-clause-straight
plus-cost-requires-clause-straight c =
    let steps = ap (λ x. x.straight + x.diagonal) c.loop.invariant.known ∙ moves_of_cost c.loop.invariant.done in
    let turn = c.loop-test.true in
    let long = c.loop.invariant.long in
    let size = c.size_of-end.ensures in
    let few = (c.requires.inside.tables c.args.walk.now.home.label c.requires.walk.here.component).few in
    omega arith

pub plus-cost-requires-clause-diagonal : goal.plus-cost-requires-clause-diagonal
plus-cost-requires-clause-diagonal c =
    let steps = ap (λ x. x.straight + x.diagonal) c.loop.invariant.known ∙ moves_of_cost c.loop.invariant.done in
    let turn = c.loop-test.true in
    let long = c.loop.invariant.long in
    let size = c.size_of-end.ensures in
    let few = (c.requires.inside.tables c.args.walk.now.home.label c.requires.walk.here.component).few in
    omega arith

pub loop-preserved : goal.loop-preserved
loop-preserved c =
    let step = subst (Advances c.args.words.now c.loop.walk c.go_on.new.walk) c.in-Go.is c.go_on.ensures.step in
    followed_more (CostIs c.loop.cost) c.args.words.now c.args.walk.now c.loop.walk c.loop.counter c.loop.invariant (CostIs c.plus-cost.result) c.go_on.new.walk c.in-Go.by
    step c.go_on.ensures.walk c.go_on.ensures.size
    (λ known. c.plus-cost.ensures ∙ ap (plus_step c.loop.cost) c.is_diagonal.ensures ∙ ap (λ x. plus_step x (is_diagonal c.in-Go.by)) known
    ∙ sym (cost_of-push c.loop.invariant.done c.in-Go.by))

pub returns : goal.returns
returns c = λ version moves ahead. absurd (never_long (CostIs c.loop.cost) c.args.words.now c.args.walk.now c.loop.walk c.loop.counter c.loop.invariant
    (let size = c.size_of-end.ensures in let done = c.loop-test.false in let upto = c.loop.auto.counter-end in omega arith) version moves ahead)
