use Rattle.std.proofs.Common.{◌≡◌, ◌+◌, arith, sym, ◌∙◌, get_or}
use Rattle.first_sets.proofs.Besides.{from_inside, brought_more, joined_by_mask}
use Rattle.first_sets.proofs.neighbour_sets.Around.join_legal.Goals as goal

pub offset_bounds-keys-from : goal.offset_bounds-keys-from
offset_bounds-keys-from c =
    let low = from_inside c.args.self.now.width c.args.keys.now c.args.sets.now c.args.legal c.args.place c.loop-number.number c.place_beside-from.result
    c.loop-number-test.true (omega arith) c.requires.near c.requires.inside c.place_beside-from.ensures.legal c.place_beside-from.ensures.otherwise in
    omega arith

pub bounds-keys-from : goal.bounds-keys-from
bounds-keys-from c =
    from_inside c.args.self.now.width c.args.keys.now c.args.sets.now c.args.legal c.args.place c.loop-number.number c.place_beside-from.result
    c.loop-number-test.true (omega arith) c.requires.near c.requires.inside c.place_beside-from.ensures.legal c.place_beside-from.ensures.otherwise

pub bounds-sets-from : goal.bounds-sets-from
bounds-sets-from c =
    let low = from_inside c.args.self.now.width c.args.keys.now c.args.sets.now c.args.legal c.args.place c.loop-number.number c.place_beside-from.result
    c.loop-number-test.true (omega arith) c.requires.near c.requires.inside c.place_beside-from.ensures.legal c.place_beside-from.ensures.otherwise in
    omega arith

pub loop-number-preserved : goal.loop-number-preserved
loop-number-preserved c =
    let read = get_or c.args.keys.now c.place_beside-from.result 0 in
    let sum : c.from.result + c.from-step.result ≡ read + c.numbered_step_key.result = omega (arith, c.from.ensures, c.from-step.ensures) in
    let key = c.from-key.ensures in
    brought_more c.args.self.now.width c.args.keys.now c.args.sets.now c.args.legal c.args.place c.loop-number.number c.place_beside-from.result
    c.loop-number-test.true (omega arith) c.requires.near c.requires.inside c.place_beside-from.ensures.legal c.place_beside-from.ensures.otherwise
    c.loop-number.set _ c.numbered_step_key.result c.loop-number.invariant c.numbered_step_key.ensures.key
    (joined_by_mask c.loop-number.set (get_or c.args.sets.now c.place_beside-from.result 0) c.all_if_equal-attains.result
    (read + c.numbered_step_key.result) (get_or c.args.keys.now c.args.place 0)
    (λ e. c.all_if_equal-attains.ensures.equal (sum ∙ e ∙ sym key))
    (λ n. c.all_if_equal-attains.ensures.unequal (λ e. n (sym sum ∙ e ∙ key))))
