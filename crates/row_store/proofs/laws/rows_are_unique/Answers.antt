use Rattle.row_store.proofs.RowLaws.{rows_are_unique}
use Rattle.row_store.proofs.laws.rows_are_unique.Goals as goal

pub returns : goal.returns
returns c = rows_are_unique
