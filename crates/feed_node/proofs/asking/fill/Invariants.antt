use Rattle.std.proofs.Common.{◌-◌, ◌≤◌, length, take}
use Rattle.path_client.specs.Taking.{Takes}
use Rattle.wire.specs.Talks.{OnlyReads}
use Rattle.feed_node.proofs.asking.fill.Given as goal

abbrev pub invariant-loop-link : goal.invariant-loop-link
invariant-loop-link g l = record {
  within : l.have ≤ length l.fn.room;
  takes : Takes (g.L.Link.at l.fn.link).talk (g.L.Link.at l.link).talk (take l.have l.room);
  counts : OnlyReads (g.L.Link.at l.fn.link) (g.L.Link.at l.link);
}

abbrev pub decreases-loop-link : goal.decreases-loop-link
decreases-loop-link g l = length l.initial.room - l.have
