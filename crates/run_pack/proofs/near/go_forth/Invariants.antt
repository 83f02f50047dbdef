use Rattle.std.proofs.Common.{◌<◌, ◌-◌, length}
use Rattle.run_pack.proofs.near.go_forth.Given as goal

abbrev pub invariant-loop-run : goal.invariant-loop-run
invariant-loop-run l = l.run < length l.words

abbrev pub decreases-loop-run : goal.decreases-loop-run
decreases-loop-run l = length l.words - l.run
