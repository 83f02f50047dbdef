use Rattle.std.proofs.Common.{sym, ◌∙◌}
use Rattle.std.proofs.lemmas.Bool.{false≢true}
use Rattle.wire.proofs.Watched.{stops_by}
use Rattle.wire.proofs.frame_watch.FrameWatch.is_stopped_by.Goals as goal

pub returns-then-self : goal.returns-then-self
returns-then-self c = record {
  stops = λ bytes rest messages f cut.
      let stops = stops_by c.args.self.now bytes f messages rest cut in
      (λ t. (stops.0 c.if-self.true, c.says_done.ensures.0 t), λ both. c.says_done.ensures.1 both.1);
}

pub returns-else-self : goal.returns-else-self
returns-else-self c = record {
  stops = λ bytes rest messages f cut.
      let stops = stops_by c.args.self.now bytes f messages rest cut in
      (λ t. absurd (false≢true (sym c.if-self.false ∙ t)), λ both. absurd (false≢true (sym c.if-self.false ∙ stops.1 both.0)));
}
