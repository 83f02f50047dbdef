use Rattle.std.proofs.Common.{◌≡◌, ◌+◌, arith, get_or}
use Rattle.first_sets.proofs.Besides.{brought_more, joined_if_equal, kept_if_apart, amid_above, amid_below, amid_inside, amid_legal, amid_other}
use Rattle.first_sets.proofs.neighbour_sets.join_amid.Goals as goal
use Rattle.first_sets.proofs.neighbour_sets.join_amid.Goals.{then-keys-from, else-keys-from}

pub places_around-near-requires-clause-above : goal.places_around-near-requires-clause-above
places_around-near-requires-clause-above c = amid_above c.args.width _ c.args.place c.requires.open.near

pub places_around-near-requires-clause-size : goal.places_around-near-requires-clause-size
places_around-near-requires-clause-size c = let low = amid_below c.args.width _ c.args.place c.requires.open.near in omega arith

pub offset_bounds-keys-from : goal.offset_bounds-keys-from
offset_bounds-keys-from c =
    let low = amid_inside c.args.width c.args.keys.now c.args.place c.loop-number.number c.places_around-near.result
    c.loop-number-test.true (omega arith) c.requires.open.near c.requires.open.inside c.places_around-near.ensures in
    omega arith

pub bounds-keys-from : goal.bounds-keys-from
bounds-keys-from c =
    amid_inside c.args.width c.args.keys.now c.args.place c.loop-number.number c.places_around-near.result
    c.loop-number-test.true (omega arith) c.requires.open.near c.requires.open.inside c.places_around-near.ensures

pub bounds-sets-from : goal.bounds-sets-from
bounds-sets-from c =
    let low = amid_inside c.args.width c.args.keys.now c.args.place c.loop-number.number c.places_around-near.result
    c.loop-number-test.true (omega arith) c.requires.open.near c.requires.open.inside c.places_around-near.ensures in
    omega arith

pub loop-number-preserved : goal.loop-number-preserved
loop-number-preserved c =
    let n = c.loop-number.number in
    let around = c.places_around-near.result in
    let from = get_or around n 0 in
    let set = get_or c.args.sets.now from 0 in
    let cost = get_or c.args.keys.now from 0 + c.numbered_step_key.result in
    let key = get_or c.args.keys.now c.args.place 0 in
    brought_more c.args.width c.args.keys.now c.args.sets.now 255 c.args.place n from c.loop-number-test.true (omega arith) c.requires.open.near c.requires.open.inside
    (amid_legal c.args.width c.args.place n around c.places_around-near.ensures) (amid_other c.args.place n from)
    c.loop-number.set c.if-keys-from.set c.numbered_step_key.result c.loop-number.invariant c.numbered_step_key.ensures.key
    (λ move. elim c.if-keys-from.branch [
      | then-keys-from w ↦
          let attained : cost ≡ key = omega (arith, w.if-keys-from.true, c.requires.far, c.numbered_step_key.ensures.limit) in
          rw w.set-is (joined_if_equal c.loop-number.set set cost key attained move)
      | else-keys-from w ↦
          rw w.set-is (kept_if_apart c.loop-number.set set cost key (λ e. w.if-keys-from.false (omega (arith, e))) move)
    ])
