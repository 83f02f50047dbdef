use Rattle.row_check.proofs.Refuting.{right_rows_have_no_fault}
use Rattle.row_check.proofs.laws.right_rows_have_no_fault.Goals as goal

pub returns : goal.returns
returns c = right_rows_have_no_fault
