use Rattle.scen_run.proofs.OneReport.{have_one}
use Rattle.scen_run.proofs.laws.results_have_one_report.Goals as goal

pub returns : goal.returns
returns c = have_one
