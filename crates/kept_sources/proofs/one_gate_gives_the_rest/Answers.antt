use Rattle.kept_sources.proofs.OneGate.{one_gate_gives_the_rest}
use Rattle.kept_sources.proofs.one_gate_gives_the_rest.Goals as goal

pub returns : goal.returns
returns c = one_gate_gives_the_rest
