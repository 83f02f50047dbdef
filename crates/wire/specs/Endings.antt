-- What the log says about the end of a connection.
use Rattle.std.specs.Prelude.{◌≡◌, Bool, true, false, Option, Some, None}
use Rattle.wire.specs.declared.patience.Cause.{Cause}
use Rattle.wire.specs.declared.patience.Cause.TheVariants.{Silent, Unasked, SlowFrame, SlowReply, NoAnswer, Stopped, Broken}
use Rattle.wire.specs.declared.timed_stream.EndTold.{EndTold}
use Rattle.wire.specs.declared.timed_stream.EndTold.TheVariants.{By, Inside}

-- The log says why a connection was ended, and if one ended inside a frame. It says nothing if a connection ended
-- between two frames, or before anything came in.
abbrev pub TellsEnd : Option Cause → Bool → Bool → Option EndTold → Type 0
TellsEnd None heard true told = told ≡ None
TellsEnd None heard false told = told ≡ Some Inside
TellsEnd (Some Broken) true between told = told ≡ Some (By Broken)
TellsEnd (Some Broken) false between told = told ≡ None
TellsEnd (Some Silent) heard between told = told ≡ Some (By Silent)
TellsEnd (Some Unasked) heard between told = told ≡ Some (By Unasked)
TellsEnd (Some SlowFrame) heard between told = told ≡ Some (By SlowFrame)
TellsEnd (Some SlowReply) heard between told = told ≡ Some (By SlowReply)
TellsEnd (Some NoAnswer) heard between told = told ≡ Some (By NoAnswer)
TellsEnd (Some Stopped) heard between told = told ≡ Some (By Stopped)
