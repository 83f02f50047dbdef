use Rattle.std.proofs.Common.{◌≡◌, ◌++◌, map, take}
use Rattle.run_pack.specs.Runs.{word_of}
use Rattle.row_store.proofs.pool.push_runs.Given as goal

abbrev pub invariant-loop-run : goal.invariant-loop-run
invariant-loop-run l = l.words.items ≡ l.fn.words.items ++ map word_of (take l.run-index l.runs)
