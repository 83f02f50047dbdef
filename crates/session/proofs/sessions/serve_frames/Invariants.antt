use Rattle.std.proofs.Common.{◌≡◌}
use Rattle.session.specs.Standing.{stands}
use Rattle.session.specs.Turns.{point}
use Rattle.session.proofs.Talking.{InTalk}
use Rattle.wire.specs.Talks.{IsLater}
use Rattle.session.proofs.sessions.serve_frames.Given as goal

abbrev pub invariant-loop-count : goal.invariant-loop-count
invariant-loop-count g l = record {
  talk : InTalk (g.K.Desk.at l.fn.desk).place (stands (g.K.Desk.at l.fn.desk)) (g.L.Link.at l.fn.link).talk
      l.count (point l.session (g.K.Desk.at l.desk) (g.L.Link.at l.link).talk);
  place : (g.K.Desk.at l.desk).place ≡ (g.K.Desk.at l.fn.desk).place;
  counts : IsLater (g.L.Link.at l.fn.link) (g.L.Link.at l.link);
}
