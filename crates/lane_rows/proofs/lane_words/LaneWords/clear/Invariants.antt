use Rattle.std.proofs.Common.{◌≡◌, ℕ, ◌<◌, [], length, map}
use Rattle.lane_rows.specs.Packed.{words_in}
use Rattle.lane_rows.proofs.lane_words.LaneWords.clear.Given as goal

abbrev pub invariant-loop-lane : goal.invariant-loop-lane
invariant-loop-lane l = record {
  lanes : length l.self-inside.lists.items ≡ 16;
  empty : (at : ℕ) → at < l.lane → words_in (map (λ list. list.items) l.self-inside.lists.items) at ≡ [];
}
