use Rattle.std.proofs.Common.{◌≤◌, length, arith}
use Rattle.bake_parts.proofs.Tables.{sizing_left}
use Rattle.bake_parts.proofs.join.tables_size.Goals as goal

pub returns-else-is_done-clause-none : goal.returns-else-is_done-clause-none
returns-else-is_done-clause-none c =
    let end = c.loop-number-test.false in
    let upto = c.loop-number.auto.number-end in
    let past : length c.args.components.now ≤ c.loop-number.number = omega arith in
    sizing_left _ _ c.loop-number.number c.loop-number.size c.loop-number.rows past (c.is_done.ensures c.if-is_done.false) c.loop-number.invariant
