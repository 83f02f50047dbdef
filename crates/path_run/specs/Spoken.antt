-- What a connection of a server sees of a session.
use Rattle.std.specs.Prelude.{◌≡◌, ◌<◌, ◌^◌, ℕ, List, length}
use Rattle.query_proto.specs.Frames.{sent_request}
use Rattle.wire.specs.Messages.{sent}
use Rattle.wire.specs.declared.frame_watch.Spoken.TheVariants.{Frames}

-- a frame whose length has two bytes is sent as the request with this frame is
abbrev pub FramesAreMessages : Type 0
FramesAreMessages = (frame : List ℕ) → length frame < 2 ^ 16 → sent Frames frame ≡ sent_request frame
