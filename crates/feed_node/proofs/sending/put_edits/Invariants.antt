use Rattle.std.proofs.Common.{drop, take}
use Rattle.follow_proto.specs.Feeds.{all_edit_bytes}
use Rattle.feed_node.specs.Sending.{Writes}
use Rattle.wire.specs.Talks.{OnlyWrites}
use Rattle.feed_node.proofs.sending.put_edits.Given as goal

abbrev pub invariant-loop-place : goal.invariant-loop-place
invariant-loop-place g l = record {
  written : Writes (g.L.Link.at l.fn.link).talk (g.L.Link.at l.link).talk l.fn.parcel l.parcel (all_edit_bytes (take l.place (drop l.first l.edits.edits)));
  counts : OnlyWrites (g.L.Link.at l.fn.link) (g.L.Link.at l.link);
}
