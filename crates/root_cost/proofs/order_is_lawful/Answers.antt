use Rattle.root_cost.proofs.Lawful.{lawful}
use Rattle.root_cost.proofs.order_is_lawful.Goals as goal

pub returns : goal.returns
returns c = lawful
