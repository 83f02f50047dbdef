use Rattle.live_search.specs.State.{HasState}
use Rattle.live_search.proofs.Stepwise.{IsBack}
use Rattle.live_search.proofs.noting.know_all.Given as goal

abbrev pub invariant-loop-left : goal.invariant-loop-left
invariant-loop-left l = HasState l.state l.seek.size × IsBack l.seek l.fn.state l.state l.fn.followed l.left l.next

abbrev pub decreases-loop-left : goal.decreases-loop-left
decreases-loop-left l = l.left
