use Rattle.std.proofs.Common.{arith}
use Rattle.bake_parts.proofs.join.put_runs.Goals as goal

pub put-end-requires : goal.put-end-requires
put-end-requires c =
    let so = c.loop-place.invariant.few in
    let few = c.in_ok-row.ensures.few in
    let size = c.requires.size in
    let at = c.requires.at in
    let less = c.loop-place-test.true in
    omega arith
