use Rattle.bake_parts.proofs.Joining.{table_put}
use Rattle.bake_parts.proofs.join.put_table.Goals as goal

pub returns-clause-table : goal.returns-clause-table
returns-clause-table c =
    table_put c.args.number c.size-size.result _ _ _ _ _ c.args.component.now c.args.rows.now _ _ _ _ _ c.size-size.ensures.size
    (record { end = c.put-at.ensures.end; grows = c.put-at.ensures.front }) (rw c.cells.ensures at c.put_cells-at.ensures) c.in_ok-at.ensures.borders c.in_ok-end.ensures.runs
