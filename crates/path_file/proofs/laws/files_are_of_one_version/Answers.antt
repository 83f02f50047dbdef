use Rattle.path_file.proofs.NoFaults.{files_of_one}
use Rattle.path_file.proofs.laws.files_are_of_one_version.Goals as goal

pub returns : goal.returns
returns c = files_of_one
