use Rattle.follow_node.proofs.Deciding.{bytes_decide}
use Rattle.follow_node.proofs.laws.bytes_decide.Goals as goal

pub returns : goal.returns
returns c = bytes_decide
