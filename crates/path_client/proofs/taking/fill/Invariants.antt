use Rattle.std.proofs.Common.{length, ◌-◌, ◌≤◌, take}
use Rattle.path_client.specs.Taking.{Takes}
use Rattle.wire.specs.Talks.{OnlyReads}
use Rattle.path_client.proofs.taking.fill.Given as goal

abbrev pub invariant-loop-count : goal.invariant-loop-count
invariant-loop-count g l = record {
  within : l.count ≤ length l.fn.room;
  takes : Takes (g.L.Link.at l.fn.link).talk (g.L.Link.at l.link).talk (take l.count l.room);
  counts : OnlyReads (g.L.Link.at l.fn.link) (g.L.Link.at l.link);
}

abbrev pub decreases-loop-count : goal.decreases-loop-count
decreases-loop-count g l = length l.initial.room - l.count
