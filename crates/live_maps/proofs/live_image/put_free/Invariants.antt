use Rattle.std.proofs.Common.{◌≡◌}
use Rattle.live_maps.proofs.Along.{IsToldSoFar}
use Rattle.live_maps.proofs.live_image.put_free.Given as goal

abbrev pub invariant-loop : goal.invariant-loop
invariant-loop l = (l.walk.words ≡ l.live.words) × IsToldSoFar l.live l.fn.walk.walk l.walk.walk l.fn.room l.room l.count l.counter
