use Rattle.std.proofs.Common.{◌≡◌, length}
use Rattle.kept_rows.specs.Gates.{KeepsJudged}
use Rattle.kept_rows.proofs.gates.keep_by_gates.Given as goal

abbrev pub invariant-loop-place : goal.invariant-loop-place
invariant-loop-place l = (length l.verdicts.items ≡ length l.pair.part.cells) × KeepsJudged l.pair.whole.cells l.pair.part.cells l.fn.verdicts.items l.verdicts.items
