use Rattle.std.proofs.Common.{◌-◌}
use Rattle.session.proofs.Cutting.{IsFilling}
use Rattle.wire.specs.Talks.{OnlyReads}
use Rattle.session.proofs.frames.Held.fill.Given as goal

abbrev pub invariant-loop-self : goal.invariant-loop-self
invariant-loop-self g l = record {
  filling : IsFilling (g.L.Link.at l.fn.link).talk (g.L.Link.at l.link).talk l.fn.self l.self-inside.room l.self-inside.have l.most;
  counts : OnlyReads (g.L.Link.at l.fn.link) (g.L.Link.at l.link);
}

abbrev pub decreases-loop-self : goal.decreases-loop-self
decreases-loop-self g l = l.want - l.self-inside.have
