use Rattle.std.proofs.Common.{arith}
use Rattle.std.proofs.lemmas.List.{get_or_default}
use Rattle.scen_run.proofs.Reporting.{lines_more, lines_all}
use Rattle.scen_run.proofs.reports.report.Goals as goal

pub loop-place-preserved : goal.loop-place-preserved
loop-place-preserved c =
    lines_more c.args.results.now c.loop-place.place _ _ _ c.loop-place-test.true (get_or_default _ _ _ _ c.loop-place-test.true) c.loop-place.invariant c.in_ok-push_line.ensures

pub returns : goal.returns
returns c =
    lines_all c.args.results.now c.loop-place.place _ _ (omega (arith, c.loop-place.auto.place-end, c.loop-place-test.false)) c.loop-place.invariant
    c.in_ok-push_totals.ensures
