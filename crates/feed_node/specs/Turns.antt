-- One turn of a feed: the next ask is taken, and answered.
use Rattle.std.specs.Prelude.{◌≡◌, ℕ, ◌<◌, Bool, true, false, Option, Result, Ok, Err}
use Rattle.wire.specs.declared.faults.Failed.{Failed}
use Rattle.wire.specs.Talks.{SendsPrefix, Talk, with_sent}
use Rattle.follow_proto.specs.Feeds.{ask_bytes, message_bytes}
use Rattle.path_client.specs.Taking.{Takes}
use Rattle.feed_node.specs.declared.feeding.FeedFault.{FeedFault}
use Rattle.feed_node.specs.declared.feeding.FeedFault.TheVariants as fault
use Rattle.feed_node.specs.Feeds.{Told, Answers}
use Rattle.feed_node.specs.Feeding.{Sight}
use Rattle.feed_node.specs.Asking.{EndsBetween, LacksAsk}

-- the message was sent, or a fault met it and less than the whole was sent
abbrev pub SendsSo : {A : Type 0} → Told → Option Talk → Option Talk → Result A Failed → Type 0
SendsSo told before after (Ok done) = after ≡ with_sent before (message_bytes told.message)
SendsSo told before after (Err failed) = SendsPrefix before after (message_bytes told.message)

-- a follower that knows so many edits is told so
pub record Tells {A : Type 0} (from : Sight) (known : ℕ) (before : Option Talk) (result : Result A Failed) (to : Sight)
    (after : Option Talk) : Type 0 where
  pub told : Told
  pub known_is : told.known ≡ known
  pub answers : Answers from.seen told to.seen
  pub looks : from.looks < to.looks
  pub sends : SendsSo told before after result

-- an ask was taken and told so
pub record StepsOn {A : Type 0} (from : Sight) (before : Option Talk) (result : Result A Failed) (to : Sight)
    (after : Option Talk) : Type 0 where
  pub known : ℕ
  pub between : Option Talk
  pub takes : Takes before between (ask_bytes known)
  pub tells : Tells from known between result to after

-- a turn: an ask was answered; or none came, since the input ended or for a fault, and nothing more was seen
abbrev pub Steps : Sight → Option Talk → Result Bool FeedFault → Sight → Option Talk → Type 0
Steps from before (Ok true) to after = StepsOn from before (Ok true) to after
Steps from before (Ok false) to after = (to ≡ from) × EndsBetween before after
Steps from before (Err fault.WriteFault) to after = (failed : Failed) × StepsOn {A = Bool} from before (Err failed) to after
Steps from before (Err why) to after = (to ≡ from) × LacksAsk before after why
