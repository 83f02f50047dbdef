-- The numbers of orders.
use Rattle.std.proofs.Common.{ℕ, ◌≤◌, arith}
use Rattle.cell_order.specs.declared.OrderKind.{OrderKind}
use Rattle.cell_order.specs.declared.OrderKind.TheVariants.{Rows, Dfs}
use Rattle.cell_order.specs.Orders.{kind_of}

-- the number of an order is 0 or 1
pub kind_small : (kind : OrderKind) → kind_of kind ≤ 1
kind_small Rows = omega arith
kind_small Dfs = omega arith
