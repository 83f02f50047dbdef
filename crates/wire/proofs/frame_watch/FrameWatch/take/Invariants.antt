use Rattle.std.proofs.Common.{◌≡◌, ℕ, List, ◌++◌, take}
use Rattle.wire.specs.Watching.{HasFollowed}
use Rattle.wire.proofs.frame_watch.FrameWatch.take.Given as goal

abbrev pub invariant-loop-byte : goal.invariant-loop-byte
invariant-loop-byte l = record {
  followed : (before : List ℕ) → HasFollowed l.fn.self before → HasFollowed l.self (before ++ take l.byte-index l.bytes);
  speech : l.self.speech ≡ l.fn.self.speech;
  spoken : l.self.spoken ≡ l.fn.self.spoken;
}
