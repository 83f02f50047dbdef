use Rattle.follow_node.proofs.Taken.{took_both}
use Rattle.follow_node.proofs.laws.pieces_join.Goals as goal

pub returns : goal.returns
returns c = took_both
