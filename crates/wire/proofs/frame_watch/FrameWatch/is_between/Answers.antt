use Rattle.wire.proofs.Watched.{between_whole, whole_between}
use Rattle.wire.proofs.frame_watch.FrameWatch.is_between.Goals as goal

pub returns : goal.returns
returns c = record {
  whole = λ bytes f. (
    λ t. between_whole c.args.self.now bytes f (c.is_at.ensures.0 t),
    λ whole. c.is_at.ensures.1 (whole_between c.args.self.now bytes f whole),
  );
}
