-- Asks, taken of a link.
use Rattle.std.specs.Prelude.{◌≡◌, ℕ, List, [], length, Option, Some, None, Result, Ok, Err}
use Rattle.follow_proto.specs.declared.asks.Ask.{Ask}
use Rattle.follow_proto.specs.Feeds.{ask_bytes}
use Rattle.wire.specs.Talks.{Talk}
use Rattle.path_client.specs.Taking.{NothingLeft, Takes}
use Rattle.feed_node.specs.declared.feeding.FeedFault.{FeedFault}
use Rattle.feed_node.specs.declared.feeding.FeedFault.TheVariants.{Torn, BadAsk, ReadFault, WriteFault}
use Rattle.feed_node.specs.Feeding.{BeginsOther, IsBegun, IsPart}

-- the input ended between asks
pub record EndsBetween (before after : Option Talk) : Type 0 where
  pub none : Takes before after []
  pub end : NothingLeft after

-- why no ask came, by what was taken
abbrev pub IsNoAsk : List ℕ → Option Talk → FeedFault → Type 0
IsNoAsk last now (Torn have) = (have ≡ length last) × IsPart last × NothingLeft now
IsNoAsk last now (BadAsk byte) = BeginsOther last byte
IsNoAsk last now ReadFault = IsBegun last
IsNoAsk last now WriteFault = ⊥

-- no ask came
pub record LacksAsk (before after : Option Talk) (why : FeedFault) : Type 0 where
  pub last : List ℕ
  pub takes : Takes before after last
  pub is : IsNoAsk last after why

-- no ask came, since the link failed
pub record LacksRest (before after : Option Talk) : Type 0 where
  pub held : List ℕ
  pub takes : Takes before after held
  pub begun : IsBegun held

-- what is held of an ask: none of it, all of it, a part of it, or what begins with another byte
abbrev pub Judges : List ℕ → Result (Option Ask) FeedFault → Type 0
Judges held (Ok None) = held ≡ []
Judges held (Ok (Some ask)) = held ≡ ask_bytes ask.known
Judges held (Err (Torn have)) = (have ≡ length held) × IsPart held
Judges held (Err (BadAsk byte)) = BeginsOther held byte
Judges held (Err ReadFault) = ⊥
Judges held (Err WriteFault) = ⊥
