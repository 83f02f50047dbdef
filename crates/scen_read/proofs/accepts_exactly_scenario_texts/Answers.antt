use Rattle.scen_read.proofs.AcceptedLemmas.{accepts_scenario_texts}
use Rattle.scen_read.proofs.accepts_exactly_scenario_texts.Goals as goal

pub returns : goal.returns
returns c = accepts_scenario_texts
