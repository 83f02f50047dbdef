use Rattle.live_search.specs.State.{HasState}
use Rattle.live_search.specs.Steps.{IsLookedAt}
use Rattle.live_search.proofs.expanding.expand.Given as goal

abbrev pub invariant-loop-number : goal.invariant-loop-number
invariant-loop-number l = HasState l.state l.seek.size × IsLookedAt l.live l.seek l.fn.state l.state l.place l.cell l.cost l.number
