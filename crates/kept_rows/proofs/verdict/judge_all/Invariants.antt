use Rattle.kept_rows.proofs.Judging.{AreJudgedTo}
use Rattle.kept_rows.proofs.verdict.judge_all.Given as goal

abbrev pub invariant-loop-place : goal.invariant-loop-place
invariant-loop-place l = AreJudgedTo l.pair.whole.cells l.pair.part.cells l.ball l.stage.former l.place l.verdicts.items
