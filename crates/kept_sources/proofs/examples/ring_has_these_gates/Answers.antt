use Rattle.kept_sources.proofs.SmallMaps.{ring_gates, diagonal_past}
use Rattle.kept_sources.proofs.examples.ring_has_these_gates.Goals as goal

pub returns-clause-gates : goal.returns-clause-gates
returns-clause-gates c = ring_gates

pub returns-clause-diagonal : goal.returns-clause-diagonal
returns-clause-diagonal c = diagonal_past
