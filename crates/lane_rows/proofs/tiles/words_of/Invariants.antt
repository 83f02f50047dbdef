use Rattle.std.proofs.Common.{◌≡◌, ℕ, ◌<◌, length, get_or}
use Rattle.lane_rows.proofs.tiles.words_of.Given as goal

abbrev pub invariant-loop-lane : goal.invariant-loop-lane
invariant-loop-lane l = record {
  whole : length l.lanes ≡ 16;
  done : (at : ℕ) → at < l.lane → get_or l.lanes at 0 ≡ get_or l.sources at 0;
}
