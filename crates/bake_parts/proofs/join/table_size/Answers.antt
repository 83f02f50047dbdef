use Rattle.bake_parts.proofs.Joining.{table_counted}
use Rattle.bake_parts.proofs.join.table_size.Goals as goal

pub returns-clause-size : goal.returns-clause-size
returns-clause-size c =
    table_counted c.args.number c.size-size.result c.in_ok-runs.runs c.args.component.now c.args.rows.now c.size-size.ensures.size c.in_ok-runs.ensures.runs
