use Rattle.std.proofs.Common.{◌≡◌, length}
use Rattle.lane_rows.proofs.lane_words.LaneWords.new.Given as goal

abbrev pub invariant-loop : goal.invariant-loop
invariant-loop l = length l.lists.items ≡ l.counter
