use Rattle.std.proofs.Common.{◌≡◌, ◌<◌, ℕ, get_or}
use Rattle.live_search.specs.State.{HasState}
use Rattle.live_search.proofs.words.clear.Given as goal

abbrev pub invariant-loop-place : goal.invariant-loop-place
invariant-loop-place l = HasState l.state l.size × ((k : ℕ) → k < l.place → get_or l.state k 0 ≡ 0)
