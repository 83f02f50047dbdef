use Rattle.std.proofs.Common.{◌≡◌}
use Rattle.live_search.specs.Ends.{KeepsOn}
use Rattle.live_search.specs.State.{HasState}
use Rattle.live_search.proofs.searching.answer.Given as goal

abbrev pub invariant-loop : goal.invariant-loop
invariant-loop l = HasState l.state l.seek.size × KeepsOn l.live l.seek l.fn.state l.state × (l.room ≡ l.fn.room)
