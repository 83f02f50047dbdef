use Rattle.std.proofs.Common.{string_bytes}
use Rattle.scen_run.proofs.Reporting.{AreLinesTo}
use Rattle.scen_run.proofs.reports.report.Given as goal

abbrev pub invariant-loop-place : goal.invariant-loop-place
invariant-loop-place l = AreLinesTo l.results l.place (string_bytes l.text)
