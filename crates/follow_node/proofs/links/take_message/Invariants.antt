use Rattle.std.proofs.Common.{◌≡◌, length}
use Rattle.follow_node.proofs.Messages.{IsTaking, left_of}
use Rattle.wire.specs.Talks.{OnlyReads}
use Rattle.follow_node.proofs.links.take_message.Given as goal

abbrev pub invariant-loop-wanted : goal.invariant-loop-wanted
invariant-loop-wanted g l = record {
  taking : IsTaking l.fn.follower (g.L.Link.at l.fn.link).talk l.follower (g.L.Link.at l.link).talk l.wanted;
  long : length l.room ≡ length l.fn.room;
  counts : OnlyReads (g.L.Link.at l.fn.link) (g.L.Link.at l.link);
}

abbrev pub decreases-loop-wanted : goal.decreases-loop-wanted
decreases-loop-wanted g l = left_of l.wanted l.follower.held
