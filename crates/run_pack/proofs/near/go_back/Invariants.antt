use Rattle.run_pack.proofs.Nearing.{IsFromAbove}
use Rattle.run_pack.specs.Runs.{run_of_word}
use Rattle.std.proofs.Common.{map}
use Rattle.run_pack.proofs.near.go_back.Given as goal

abbrev pub invariant-loop-run : goal.invariant-loop-run
invariant-loop-run l = IsFromAbove (map run_of_word l.words) l.place l.run

abbrev pub decreases-loop-run : goal.decreases-loop-run
decreases-loop-run l = l.run
