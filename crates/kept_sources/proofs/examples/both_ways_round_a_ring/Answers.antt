use Rattle.kept_sources.proofs.BothWays.{both_ways}
use Rattle.kept_sources.proofs.examples.both_ways_round_a_ring.Goals as goal

pub returns : goal.returns
returns c = both_ways
