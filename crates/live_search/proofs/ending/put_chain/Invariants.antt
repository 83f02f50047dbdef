use Rattle.live_search.proofs.Chains.{IsPutBack}
use Rattle.live_search.proofs.ending.put_chain.Given as goal

abbrev pub invariant-loop-left : goal.invariant-loop-left
invariant-loop-left l = IsPutBack l.seek l.state l.place l.length l.fn.room l.room l.at l.left

abbrev pub decreases-loop-left : goal.decreases-loop-left
decreases-loop-left l = l.left
