use Rattle.std.proofs.Common.{refl}
use Rattle.grid_search.proofs.Stepping.{ready_after, step_skipped, legal_if_set, set_if_legal, place_fits, step_not_lower, straight_room, step_straight, diagonal_room, step_diagonal}
use Rattle.grid_search.proofs.settling.step.Goals as goal

pub returns-then-from-number-ne1-clause-steps : goal.returns-then-from-number-ne1-clause-steps
returns-then-from-number-ne1-clause-steps c = step_skipped _ _ _ _ (λ to legal.
    absurd (c.if-from-number-ne1.true (set_if_legal _ c.args.from.entry c.args.by c.args.from.legal _ c.requires.legal c.number.ensures.number (to, legal))))

pub target-cell-requires-clause-some : goal.target-cell-requires-clause-some
target-cell-requires-clause-some c =
    let legal = legal_if_set _ c.args.from.entry c.args.by c.args.from.legal _ c.requires.legal c.number.ensures.number c.if-from-number-ne1.false in
    (legal.0, legal.1.target)

pub bounds-keys-target_place : goal.bounds-keys-target_place
bounds-keys-target_place c =
    place_fits _ _ c.args.by _ _ c.args.from.legal c.number.result _ _ _ _
    c.requires.legal c.number.ensures.number c.if-from-number-ne1.false
    c.target_place-target_place.ensures c.width-width.ensures.width c.step_key.ensures.key c.is_diagonal-diagonal.ensures
    c.target-cell.ensures c.requires.ready c.requires.last.key

pub returns-then-keys-target_place-clause-steps : goal.returns-then-keys-target_place-clause-steps
returns-then-keys-target_place-clause-steps c =
    step_not_lower _ _ c.args.by _ _ c.args.from.legal c.number.result _ _ _ _
    c.requires.legal c.number.ensures.number c.if-from-number-ne1.false
    c.target_place-target_place.ensures c.width-width.ensures.width c.step_key.ensures.key c.is_diagonal-diagonal.ensures
    c.target-cell.ensures c.requires.ready c.requires.last.key
    c.if-keys-target_place.true

pub push_diagonal-requires : goal.push_diagonal-requires
push_diagonal-requires c =
    diagonal_room _ _ c.args.by _ _ c.args.from.legal c.number.result _ _ _ _
    c.requires.legal c.number.ensures.number c.if-from-number-ne1.false
    c.target_place-target_place.ensures c.width-width.ensures.width c.step_key.ensures.key c.is_diagonal-diagonal.ensures
    c.target-cell.ensures c.requires.ready c.requires.last.key
    c.if-keys-target_place.false c.if-diagonal.true

pub push_straight-requires : goal.push_straight-requires
push_straight-requires c =
    straight_room _ _ c.args.by _ _ c.args.from.legal c.number.result _ _ _ _
    c.requires.legal c.number.ensures.number c.if-from-number-ne1.false
    c.target_place-target_place.ensures c.width-width.ensures.width c.step_key.ensures.key c.is_diagonal-diagonal.ensures
    c.target-cell.ensures c.requires.ready c.requires.last.key
    c.if-keys-target_place.false c.if-diagonal.false

pub returns-then-diagonal-clause-steps : goal.returns-then-diagonal-clause-steps
returns-then-diagonal-clause-steps c =
    step_diagonal _ _ c.args.by _ _ c.args.from.legal c.number.result _ _ _ _
    c.requires.legal c.number.ensures.number c.if-from-number-ne1.false
    c.target_place-target_place.ensures c.width-width.ensures.width c.step_key.ensures.key c.is_diagonal-diagonal.ensures
    c.target-cell.ensures c.requires.ready c.requires.last.key
    c.if-keys-target_place.false c.if-diagonal.true _ refl c.push_diagonal.ensures.straight c.push_diagonal.ensures.diagonal

pub returns-else-diagonal-clause-steps : goal.returns-else-diagonal-clause-steps
returns-else-diagonal-clause-steps c =
    step_straight _ _ c.args.by _ _ c.args.from.legal c.number.result _ _ _ _
    c.requires.legal c.number.ensures.number c.if-from-number-ne1.false
    c.target_place-target_place.ensures c.width-width.ensures.width c.step_key.ensures.key c.is_diagonal-diagonal.ensures
    c.target-cell.ensures c.requires.ready c.requires.last.key
    c.if-keys-target_place.false c.if-diagonal.false _ refl c.push_straight.ensures.straight c.push_straight.ensures.diagonal

pub returns-then-from-number-ne1-clause-ready : goal.returns-then-from-number-ne1-clause-ready
returns-then-from-number-ne1-clause-ready c = ready_after _ _ _ _ _ c.requires.ready (returns-then-from-number-ne1-clause-steps c)

pub returns-then-keys-target_place-clause-ready : goal.returns-then-keys-target_place-clause-ready
returns-then-keys-target_place-clause-ready c = ready_after _ _ _ _ _ c.requires.ready (returns-then-keys-target_place-clause-steps c)

pub returns-then-diagonal-clause-ready : goal.returns-then-diagonal-clause-ready
returns-then-diagonal-clause-ready c = ready_after _ _ _ _ _ c.requires.ready (returns-then-diagonal-clause-steps c)

pub returns-else-diagonal-clause-ready : goal.returns-else-diagonal-clause-ready
returns-else-diagonal-clause-ready c = ready_after _ _ _ _ _ c.requires.ready (returns-else-diagonal-clause-steps c)
