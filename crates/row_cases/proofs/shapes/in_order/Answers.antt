use Rattle.build_pool.proofs.Connecting.{AreGiven, on_map_all, sources_in_order}
use Rattle.row_cases.proofs.shapes.in_order.Goals as goal
use Rattle.row_cases.proofs.shapes.in_order.Goals.{In_ok-order}

-- the cells, and the same in their order
given : (c : In_ok-order) → AreGiven c.args.cells.now c.in_ok-order.order.items
given c = record { same = c.in_ok-order.ensures.same; can = c.requires }

pub order_of-requires-clause-limits : goal.order_of-requires-clause-limits
order_of-requires-clause-limits c = on_map_all _ c.requires.on_map

pub of-requires : goal.of-requires
of-requires c = rw c.deref.ensures.value (sources_in_order _ _ (given (goal.at.of-requires c).In_ok-order)).numbered

pub returns-clause-table : goal.returns-clause-table
returns-clause-table c =
    let is = given (goal.at.returns-clause-table c).In_ok-order in
    record {
      sources = sources_in_order _ _ is;
      edges = rw c.deref.ensures.value at c.in_ok-near.ensures.near;
      pairs = c.in_ok-near.ensures.pairs;
    }
