use Rattle.feed_node.proofs.Fed.{feeds_begin_anywhere}
use Rattle.feed_node.proofs.laws.feeds_begin_anywhere.Goals as goal

pub returns : goal.returns
returns c = feeds_begin_anywhere
