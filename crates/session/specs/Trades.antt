-- What is done at the doors of a board: sessions, and feeds at the door of one pass.
use Rattle.std.specs.Prelude.{◌≡◌, ℕ, IfErr, Some, Result}
use Rattle.moves.specs.Maps.{Map}
use Rattle.path_core.specs.Passes.{OthersAdd}
use Rattle.wire.specs.Talks.{EndedTalk}
use Rattle.feed_node.specs.declared.feeding.FeedEnded.{FeedEnded}
use Rattle.feed_node.specs.declared.feeding.FeedFault.{FeedFault}
use Rattle.feed_node.specs.Feeding.{Feeds, HasCause}
use Rattle.session.specs.declared.trades.Trade.{Trade}
use Rattle.session.specs.declared.trades.Trade.TheVariants as trade
use Rattle.session.specs.Doors.{IsServedTalk, link_begun, link_ended}
use Rattle.session.specs.Standing.{Place, Standing}

-- A TALK that is over was a feed of this map and of what the pass saw meanwhile, from its first byte on; the pass entered nothing;
-- and a fault of the link is told only where the count of its direction rose
pub record IsFedTalk (start : Map) (place : Place) (from : Standing) (ended : EndedTalk) (to : Standing) : Type 0 where
  pub result : Result FeedEnded FeedFault
  pub looks : ℕ
  pub from_looks : from.looks ≡ Some looks
  pub more : ℕ
  pub to_looks : to.looks ≡ Some more
  pub feeds : Feeds start (record { seen = from.seen; looks = looks }) (link_begun ended).talk result
      (record { seen = to.seen; looks = more }) (link_ended ended).talk
  pub others : OthersAdd place.pass from.seen to.seen
  pub cause : IfErr result (HasCause (link_begun ended) (link_ended ended))

-- the talks of the pass with that number are feeds, which begin with this map
abbrev pub IsFeedBy : Trade → ℕ → Map → Type 0
IsFeedBy trade.Sessions pass map = ⊥
IsFeedBy (trade.Feeds feed start) pass map = (pass ≡ feed) × (map ≡ start.now.map)

-- the talks of the pass with that number are sessions
abbrev pub IsNoFeed : Trade → ℕ → Type 0
IsNoFeed done pass = (map : Map) → IsFeedBy done pass map → ⊥

-- at these places talks are feeds
abbrev pub feeds_at : Trade → Place → Type 0
feeds_at done place = (map : Map) × IsFeedBy done place.pass map

-- feeds at the place begin with the board's first map
abbrev pub FitsAt : Trade → Place → Type 0
FitsAt done place = (map : Map) → IsFeedBy done place.pass map → map ≡ place.start

-- a talk was a feed, or a session, by the pass of its place
pub record IsHeldBy (done : Trade) (place : Place) (from : Standing) (ended : EndedTalk) (to : Standing) : Type 0 where
  pub fed : (map : Map) → IsFeedBy done place.pass map → IsFedTalk map place from ended to
  pub session : IsNoFeed done place.pass → IsServedTalk place from ended to
