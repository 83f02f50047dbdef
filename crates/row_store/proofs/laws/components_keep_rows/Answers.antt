use Rattle.row_store.proofs.RowLaws.{components_keep_each_row, components_keep_rows}
use Rattle.row_store.proofs.laws.components_keep_rows.Goals as goal

pub returns-clause-each : goal.returns-clause-each
returns-clause-each c = components_keep_each_row

pub returns-clause-all : goal.returns-clause-all
returns-clause-all c = components_keep_rows
