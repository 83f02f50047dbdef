use Rattle.std.proofs.Common.{◌≡◌, [], None, length}
use Rattle.follow_node.specs.Links.{GoesRounds}
use Rattle.wire.specs.Talks.{IsLater}
use Rattle.follow_node.proofs.links.follow_rounds.Given as goal

abbrev pub invariant-loop : goal.invariant-loop
invariant-loop g l = record {
  goes : GoesRounds l.counter l.fn.follower (g.L.Link.at l.fn.link).talk l.follower (g.L.Link.at l.link).talk;
  even : l.follower.held ≡ [];
  unfaulted : l.follower.fault ≡ None;
  long : length l.room ≡ length l.fn.room;
  counts : IsLater (g.L.Link.at l.fn.link) (g.L.Link.at l.link);
}
