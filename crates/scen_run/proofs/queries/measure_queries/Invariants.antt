use Rattle.scen_run.proofs.Querying.{IsMeasuredTo}
use Rattle.scen_run.proofs.queries.measure_queries.Given as goal

abbrev pub invariant-loop-query : goal.invariant-loop-query
invariant-loop-query l = IsMeasuredTo l.version l.seed l.query l.totals
