use Rattle.std.proofs.Common.{◌≡◌, ◌*◌, ◌≤◌, ◌++◌, length, take, drop, refl, ap, ◌∙◌, arith}
use Rattle.std.proofs.lemmas.List.{length-replicate, take_at}
use Rattle.bake_parts.proofs.Placing.{homes_begin, homes_end, homes_inside, homes_next}
use Rattle.bake_parts.proofs.homes.homes_of.Goals as goal

pub loop-number-init : goal.loop-number-init
loop-number-init c =
    record {
      size = ap length c.in_ok-homes.ensures ∙ length-replicate (c.width-width.result * c.height-height.result) 4294967295 ∙ (rw (c.width-width.ensures.width, c.height-height.ensures.height) refl);
      to = homes_begin _ _ _ c.requires.ordered c.width-width.result c.height-height.result _ c.in_ok-homes.ensures c.width-width.ensures.width c.height-height.ensures.height;
    }

pub set_homes-requires-clause-inside : goal.set_homes-requires-clause-inside
set_homes-requires-clause-inside c =
    let size = c.loop-number.invariant.size in
    let value = c.as_mut_slice.ensures.value in
    homes_inside _ _ _ c.requires.ordered c.loop-number.number c.width-width.result _ _ c.loop-number-test.true c.component_in-component.ensures c.width-width.ensures.width (rw value size)

pub loop-number-preserved : goal.loop-number-preserved
loop-number-preserved c =
    let own = c.loop-number.homes.ok.0 in
    let size = c.loop-number.invariant.size in
    let value = c.as_mut_slice.ensures.value in
    let kept = rw value at c.set_homes.ensures.size in
    let all : length c.set_homes.new.homes ≡ c.loop-number.homes.len = omega arith in
    let back : take c.loop-number.homes.len (c.set_homes.new.homes ++ drop (length c.set_homes.new.homes) c.loop-number.homes.items) ≡ c.set_homes.new.homes = take_at c.set_homes.new.homes _ _ all in
    rw back
    (record {
      size = kept ∙ size;
      to = homes_next _ _ _ c.requires.ordered c.loop-number.number c.width-width.result c.loop-number.homes.items c.set_homes.new.homes c.component_in-component.result.now
          c.loop-number-test.true c.component_in-component.ensures c.width-width.ensures.width c.loop-number.invariant.to (rw value at c.set_homes.ensures.set);
    })

pub returns : goal.returns
returns c =
    let end = c.loop-number-test.false in
    let upto = c.loop-number.auto.number-end in
    let past : length c.args.components.now ≤ c.loop-number.number = omega arith in
    homes_end _ _ _ c.requires.ordered c.loop-number.number _ past c.loop-number.invariant.size c.loop-number.invariant.to
