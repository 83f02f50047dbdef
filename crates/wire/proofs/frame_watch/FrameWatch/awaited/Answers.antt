use Rattle.std.proofs.Common.{refl}
use Rattle.std.proofs.lemmas.Bool.{false≢true}
use Rattle.wire.proofs.Watched.{ask_not_rest, frame_not_rest}
use Rattle.wire.proofs.frame_watch.FrameWatch.awaited.Goals as goal

pub returns-then-not-is_between-clause-rest : goal.returns-then-not-is_between-clause-rest
returns-then-not-is_between-clause-rest c bytes f =
    (λ _ whole. false≢true ((c.if-not-is_between.ensures.whole bytes f).1 whole), λ _. refl)

pub returns-in-Frames-clause-rest : goal.returns-in-Frames-clause-rest
returns-in-Frames-clause-rest c bytes f =
    (λ e. absurd (frame_not_rest e), λ none. absurd (none ((c.if-not-is_between.ensures.whole bytes f).0 refl)))

pub returns-in-Asks-clause-rest : goal.returns-in-Asks-clause-rest
returns-in-Asks-clause-rest c bytes f =
    (λ e. absurd (ask_not_rest e), λ none. absurd (none ((c.if-not-is_between.ensures.whole bytes f).0 refl)))
