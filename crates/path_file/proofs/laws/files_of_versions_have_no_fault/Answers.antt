use Rattle.path_file.proofs.NoFaults.{files_have_no_fault}
use Rattle.path_file.proofs.laws.files_of_versions_have_no_fault.Goals as goal

pub returns : goal.returns
returns c = files_have_no_fault c.right_rows_have_no_fault.ensures
