use Rattle.std.proofs.Common.{◌∙◌}
use Rattle.wire.proofs.Counting.{later_on}
use Rattle.follow_node.proofs.Rounding.{one_more_round}
use Rattle.follow_node.proofs.links.follow_rounds.Goals as goal

pub loop-preserved : goal.loop-preserved
loop-preserved g c = record {
  goes = one_more_round c.loop.counter _ c.loop.follower _ _ (g.L.Link.at c.loop.link).talk _ c.loop.invariant.goes c.in-Ok.ensures.goes;
  even = c.in-Ok.ensures.even;
  unfaulted = c.in-Ok.ensures.open;
  long = c.in-Ok.ensures.room ∙ c.loop.invariant.long;
  counts = later_on _ _ _ c.loop.invariant.counts c.in-Ok.ensures.counts;
}
