use Rattle.std.proofs.Common.{◌≡◌, ◌+◌, length, refl, arith}
use Rattle.bake_parts.proofs.Joining.{bordering_all, bordering_more}
use Rattle.bake_parts.proofs.join.put_borders.Goals as goal

pub loop-place-preserved : goal.loop-place-preserved
loop-place-preserved c =
    bordering_more _ _ c.loop-place.place c.loop-place.border (c.loop-place.border + length c.in_ok-row.row.now) _ _ _ _ _ _ c.in_ok-row.row.now _ _ _
    c.loop-place-test.true c.requires.size c.in_ok-row.ensures.few
    refl (record { end = c.put-end.ensures.end; grows = c.put-end.ensures.front }) c.loop-place.invariant c.in_ok-row.ensures.row

pub returns-clause-borders : goal.returns-clause-borders
returns-clause-borders c =
    let end = c.loop-place-test.false in
    let upto = c.loop-place.auto.place-end in
    let all : c.loop-place.place ≡ c.args.size = omega arith in
    bordering_all _ _ c.loop-place.place _ _ _ _ _ _ _ _ _ all (record { end = c.put.ensures.end; grows = c.put.ensures.front }) c.loop-place.invariant
