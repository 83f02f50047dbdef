use Rattle.std.proofs.Common.{◌≡◌, []}
use Rattle.path_core.specs.Passes.{OthersAdd}
use Rattle.path_board.specs.Passes.{seen_of, SamePass}
use Rattle.feed_node.specs.Feeding.{sight_of}
use Rattle.feed_node.specs.Looking.{HoldsSince, IsBacklog}
use Rattle.feed_node.proofs.Fed.{IsFedTo}
use Rattle.wire.specs.Talks.{IsLater}
use Rattle.feed_node.proofs.feeding.answer_asks.Given as goal

abbrev pub invariant-loop : goal.invariant-loop
invariant-loop g l = record {
  fed : IsFedTo (sight_of l.fn.pass) (g.L.Link.at l.fn.link).talk (sight_of l.pass) (g.L.Link.at l.link).talk l.counter;
  same : SamePass l.fn.pass l.pass;
  none : OthersAdd l.fn.pass.number (seen_of l.fn.pass) (seen_of l.pass);
  held : HoldsSince l.fn.pass l.pass;
  backlog : IsBacklog (seen_of l.pass) l.backlog.known l.backlog.edits.edits;
  parcel : l.parcel ≡ [];
  counts : IsLater (g.L.Link.at l.fn.link) (g.L.Link.at l.link);
}
