use Rattle.live_search.proofs.Chains.{IsOnTheWayBack}
use Rattle.live_search.proofs.ending.chain_length.Given as goal

abbrev pub invariant-loop-length : goal.invariant-loop-length
invariant-loop-length l = IsOnTheWayBack l.seek l.state l.place l.at l.length
