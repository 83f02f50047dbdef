use Rattle.scen_run.proofs.OneResult.{have_one}
use Rattle.scen_run.proofs.laws.lines_have_one_result.Goals as goal

pub returns : goal.returns
returns c = have_one
