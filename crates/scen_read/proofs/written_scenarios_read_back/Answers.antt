use Rattle.scen_read.proofs.WrittenLemmas.{written_reads_back}
use Rattle.scen_read.proofs.written_scenarios_read_back.Goals as goal

pub returns : goal.returns
returns c = written_reads_back
