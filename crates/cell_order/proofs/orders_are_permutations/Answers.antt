use Rattle.cell_order.proofs.Permuted.{orders_are_permutations}
use Rattle.cell_order.proofs.orders_are_permutations.Goals as goal

pub returns : goal.returns
returns c = orders_are_permutations
