-- How much of a message has come.
use Rattle.std.specs.Prelude.{ℕ, List}
use Rattle.follow_node.specs.declared.follower.Stage.{Stage}
use Rattle.follow_node.specs.declared.follower.Stage.TheVariants.{Begun, TooLong, Whole}
use Rattle.follow_node.specs.Streams.{IsBegun, IsTooLong, IsWhole}

abbrev pub IsStage : List ℕ → Stage → Type 0
IsStage held Begun = IsBegun held
IsStage held TooLong = IsTooLong held
IsStage held Whole = IsWhole held
