use Rattle.std.proofs.Common.{refl}
use Rattle.wire.proofs.Watched.{nothing_followed}
use Rattle.wire.proofs.frame_watch.FrameWatch.over_asks.Goals as goal

pub returns-clause-followed : goal.returns-clause-followed
returns-clause-followed c = nothing_followed _ _ refl c.args.speech.some refl refl
