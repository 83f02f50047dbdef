use Rattle.std.proofs.Common.{take}
use Rattle.feed_node.specs.Sending.{Writes}
use Rattle.feed_node.proofs.Writing.{one_byte}
use Rattle.std.specs.List.{flat_map}
use Rattle.wire.specs.Talks.{OnlyWrites}
use Rattle.feed_node.proofs.sending.put_ground.Given as goal

abbrev pub invariant-loop-place : goal.invariant-loop-place
invariant-loop-place g l = record {
  written : Writes (g.L.Link.at l.fn.link).talk (g.L.Link.at l.link).talk l.fn.parcel l.parcel (flat_map one_byte (take l.place l.grid.terrain));
  counts : OnlyWrites (g.L.Link.at l.fn.link) (g.L.Link.at l.link);
}
