use Rattle.std.proofs.Common.{◌≡◌}
use Rattle.live_search.specs.State.{HasState}
use Rattle.live_search.proofs.Stepwise.{IsFollowing}
use Rattle.live_search.proofs.noting.follow.Given as goal

abbrev pub invariant-loop-steps : goal.invariant-loop-steps
invariant-loop-steps l =
    (l.walk.words ≡ l.live.words) × HasState l.state l.seek.size × IsFollowing l.live l.seek l.fn.state l.state l.fn.walk.walk l.walk.walk l.steps
