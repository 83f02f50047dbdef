use Rattle.std.proofs.Common.{◌+◌, ◌%◌, refl}
use Rattle.bake_parts.proofs.Tables.{starting_more}
use Rattle.bake_parts.proofs.join.put_starts.Goals as goal

pub loop-number-preserved : goal.loop-number-preserved
loop-number-preserved c =
    starting_more _ _ _ c.loop-number.number c.loop-number.begin ((c.loop-number.begin + c.in_ok-table.table) % 4294967296) _ _ _ c.in_ok-table.table _ _ _ _ _ _ _
    c.loop-number-test.true c.component_in-component.ensures refl
    (record { end = c.put-end.ensures.end; grows = c.put-end.ensures.front }) c.loop-number.invariant c.in_ok-table.ensures.size c.in_ok-table.ensures.passed
