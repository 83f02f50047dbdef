use Rattle.build_pool.proofs.Connecting.{AreGiven, ready, sources_in_order, comp_in_order}
use Rattle.build_pool.proofs.build_rows_knowing.Goals as goal
use Rattle.build_pool.proofs.build_rows_knowing.Goals.{In_ok-order}

-- the cells, and the same in their order
given : (g : _) (c : In_ok-order g) → AreGiven c.args.cells.now c.in_ok-order.order.items
given g c = record { same = c.in_ok-order.ensures.same; can = c.requires.cells }

pub of-requires : goal.of-requires
of-requires g c =
    let from = sources_in_order _ _ (given g (goal.at.of-requires g c).In_ok-order) in
    rw c.deref.ensures.value from.numbered

pub gather_knowing-requires-clause-table : goal.gather_knowing-requires-clause-table
gather_knowing-requires-clause-table g c κs longer =
    let is = given g (goal.at.gather_knowing-requires-clause-table g c).In_ok-order in
    rw c.deref-2.ensures.value (record { sources = sources_in_order _ _ is; edges = rw c.deref.ensures.value at c.in_ok-near.ensures.near; pairs = c.in_ok-near.ensures.pairs })

pub put_rest-requires-clause-sources : goal.put_rest-requires-clause-sources
put_rest-requires-clause-sources g c =
    let is = given g (goal.at.put_rest-requires-clause-sources g c).In_ok-order in
    rw c.deref-3.ensures.value (sources_in_order _ _ is)

pub of_pool-requires : goal.of_pool-requires
of_pool-requires g c =
    let is = given g (goal.at.of_pool-requires g c).In_ok-order in
    let from = sources_in_order _ _ is in
    let some = rw c.deref-2.ensures.value at c.in_ok-rows.ensures in
    let all = rw (c.deref-3.ensures.value, some.size) at c.in_ok-put_rest.ensures.whole in
    comp_in_order _ _ _ (ready _ _ is from.board from.just) _ _ all.size (λ place within. (all.each place within).over from.board from.just)
