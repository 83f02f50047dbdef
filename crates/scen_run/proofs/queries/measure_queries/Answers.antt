use Rattle.std.proofs.Common.{◌≡◌, ◌+◌, ◌<◌, sym, ap, subst, ◌∙◌, arith}
use Rattle.moves.specs.Maps.{passable_cells}
use Rattle.scen_run.specs.MadeQueries.{queries_among}
use Rattle.scen_run.proofs.Querying.{IsMeasuredTo, some_among, measured_more, measured_all}
use Rattle.scen_run.proofs.queries.measure_queries.Goals as goal

pub loop-query-preserved : goal.loop-query-preserved
loop-query-preserved c =
    let there = subst (λ n. c.loop-query.query < n) c.queries_among-query-end.ensures c.loop-query-test.true in
    let some = some_among c.deref.result.now c.loop-query.query there in
    subst (IsMeasuredTo c.args.version.now c.args.seed (c.loop-query.query + 1)) (sym c.with-totals.ensures)
    (measured_more _ _ _ _ c.loop-query.invariant some.1 c.walk_cost.result c.walk_cost.ensures.cost c.walk_cost.ensures.few)

pub returns : goal.returns
returns c =
    let end : c.loop-query.query ≡ c.queries_among-query-end.result = omega (arith, c.loop-query.auto.query-end, c.loop-query-test.false) in
    let cells = c.deref.ensures.value ∙ c.in_ok-cells.ensures ∙ ap passable_cells c.grid.ensures.map in
    measured_all _ _ _ _ c.loop-query.invariant (end ∙ c.queries_among-query-end.ensures ∙ ap queries_among cells)
