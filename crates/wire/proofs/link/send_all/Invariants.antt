use Rattle.std.proofs.Common.{length, ◌-◌, ◌≡◌, ◌≤◌, take}
use Rattle.wire.specs.Talks.{OnlyWrites, with_sent}
use Rattle.wire.proofs.link.send_all.Given as goal

abbrev pub invariant-loop-sent : goal.invariant-loop-sent
invariant-loop-sent g l = record {
  within : l.sent ≤ length l.text;
  sent : (g.L.Link.at l.link).talk ≡ with_sent (g.L.Link.at l.fn.link).talk (take l.sent l.text);
  counts : OnlyWrites (g.L.Link.at l.fn.link) (g.L.Link.at l.link);
}

abbrev pub decreases-loop-sent : goal.decreases-loop-sent
decreases-loop-sent g l = length l.text - l.sent
