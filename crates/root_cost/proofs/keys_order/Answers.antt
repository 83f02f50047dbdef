use Rattle.root_cost.proofs.Keys.{keys_in_order}
use Rattle.root_cost.proofs.keys_order.Goals as goal

pub returns : goal.returns
returns c = keys_in_order
