use Rattle.std.proofs.Common.{◌++◌, ◌+◌, ◌∷◌, [], ◌∙◌, subst, sym, ap, arith}
use Rattle.moves.specs.Moves.{number_of}
use Rattle.root_cost.specs.Costs.{plus_step}
use Rattle.walker.specs.Walks.{Advances}
use Rattle.walker.proofs.Measuring.{measured_all}
use Rattle.session.proofs.Writing.{IsWritten, bytes_all, has_room, written_more, written_none}
use Rattle.session.proofs.telling.write_moves.Goals as goal

pub loop-init : goal.loop-init
loop-init c = written_none c.args.walk.now c.args.room.now c.requires.none c.requires.few

pub push-requires : goal.push-requires
push-requires c =
    has_room _ _ _ _ _ c.loop.invariant c.step.new.self c.in-Some.by (subst (Advances c.loop.walk c.step.new.self) c.in-Some.is c.step.ensures)

pub plus-cost-requires-clause-straight : goal.plus-cost-requires-clause-straight
plus-cost-requires-clause-straight c = let steps = c.loop.invariant.measured.steps in let inside = c.loop-test.true in omega arith

pub plus-cost-requires-clause-diagonal : goal.plus-cost-requires-clause-diagonal
plus-cost-requires-clause-diagonal c = let steps = c.loop.invariant.measured.steps in let inside = c.loop-test.true in omega arith

pub returns-in-None-clause-cost : goal.returns-in-None-clause-cost
returns-in-None-clause-cost c =
    measured_all _ _ _ _ c.loop.invariant.measured c.step.new.self (subst (Advances c.loop.walk c.step.new.self) c.in-None.is c.step.ensures)

pub returns-in-None-clause-moves : goal.returns-in-None-clause-moves
returns-in-None-clause-moves c =
    bytes_all _ _ _ _ _ c.loop.invariant c.step.new.self (subst (Advances c.loop.walk c.step.new.self) c.in-None.is c.step.ensures)

pub loop-preserved : goal.loop-preserved
loop-preserved c =
    let step = subst (Advances c.loop.walk c.step.new.self) c.in-Some.is c.step.ensures in
    let cost = c.plus-cost.ensures ∙ ap (plus_step c.loop.cost) c.is_diagonal.ensures in
    subst (λ bytes. IsWritten c.args.walk.now c.step.new.self c.plus-cost.result bytes (c.loop.counter + 1)) (sym c.push.ensures)
    (subst (λ cost. IsWritten c.args.walk.now c.step.new.self cost (c.loop.room ++ number_of c.in-Some.by ∷ []) (c.loop.counter + 1)) (sym cost)
    (written_more _ _ _ _ _ c.loop.invariant c.step.new.self c.in-Some.by step))
