use Rattle.scen_read.proofs.RefusedLemmas.{refusals_name_first}
use Rattle.scen_read.proofs.refusals_name_the_first_fault.Goals as goal

pub returns : goal.returns
returns c = refusals_name_first
