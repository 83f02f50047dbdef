-- Talks over links that have just come in, at a seat: feeds and sessions.
use Rattle.std.proofs.Common.{◌≡◌, ℕ, ◌++◌, length, Err, IfErr, IfSome, None, Ok, Option, Result, Some, inl, inr, refl, sym, subst, ◌∙◌}
use Rattle.moves.specs.Maps.{Map}
use Rattle.path_core.specs.Passes.{OthersAdd}
use Rattle.path_core.proofs.Passing.{others_begin}
use Rattle.path_board.specs.declared.pass.Pass.{Pass}
use Rattle.path_board.specs.Passes.{looks_of, seen_of, SamePass}
use Rattle.wire.specs.Causes.{Rose}
use Rattle.wire.specs.Talks.{AtLink, IsFresh, IsUnused, Talk, talk_over, with_sent, with_taken}
use Rattle.feed_node.specs.declared.feeding.FeedEnded.{FeedEnded}
use Rattle.feed_node.specs.declared.feeding.FeedFault.{FeedFault}
use Rattle.feed_node.specs.declared.feeding.FeedFault.TheVariants as fault
use Rattle.feed_node.specs.Feeding.{Feeds, HasCause, sight_of}
use Rattle.feed_node.specs.Feeds.{asked_bytes}
use Rattle.feed_node.specs.Looking.{HoldsSince}
use Rattle.session.specs.Doors.{HoldsTalk, IsServedTalk, MovesOn, link_begun, link_ended}
use Rattle.session.specs.Seats.{place_of, standing_of}
use Rattle.session.specs.Standing.{HoldsSince as HoldsSinceThen, Place, Standing}
use Rattle.session.specs.declared.trades.Trade.{Trade}
use Rattle.session.specs.declared.trades.Trade.TheVariants as trade
use Rattle.session.specs.Trades.{IsFedTalk, IsFeedBy, IsHeldBy, IsNoFeed, feeds_at}
use Rattle.session.proofs.Leading.{begun}

-- the same pass stands at the same place
pub place_by_same : (before after : Pass) → SamePass before after → place_of after ≡ place_of before
place_by_same before after same = λ i. record {
  pass = same.number i;
  start = (same.base i).start;
  order = (same.base i).order;
  room = (same.base i).room;
  shared = Some (record { board = same.board i; passes = same.made i });
}

-- which version a pass holds that fed
pub fed_holds : (before after : Pass) → HoldsSince before after → HoldsSinceThen (standing_of before) (standing_of after)
fed_holds before after held = elim held [
  | inl same ↦ inl same
  | inr w ↦ inr (record { at = w.at; later = w.later; earlier = w.earlier; is = w.is })
]

-- a fault has its cause in the counts of a link that had just come in
cause_begun : (fresh link : AtLink) (talk : Talk) (result : Result FeedEnded FeedFault) → IsUnused fresh → IfErr result (HasCause fresh link)
    → IfErr result (HasCause (link_begun (talk_over link talk)) (link_ended (talk_over link talk)))
cause_begun fresh link talk (Ok ended) new cause = tt
cause_begun fresh link talk (Err (fault.Torn have)) new cause = tt
cause_begun fresh link talk (Err (fault.BadAsk byte)) new cause = tt
cause_begun fresh link talk (Err fault.ReadFault) new cause = subst (λ n. Rose n link.read_faults) new.no_read_fault cause
cause_begun fresh link talk (Err fault.WriteFault) new cause = subst (λ n. Rose n link.write_faults) new.no_write_fault cause

-- a feed over a link that had just come in
pub fed_held : (start : Map) (before after : Pass) (fresh link : AtLink) (result : Result FeedEnded FeedFault) → IsUnused fresh
    → Feeds start (sight_of before) fresh.talk result (sight_of after) link.talk → IfErr result (HasCause fresh link)
    → OthersAdd before.number (seen_of before) (seen_of after)
    → IfSome fresh.talk (λ _. HoldsTalk (IsFedTalk start) (place_of before) (standing_of before) link (standing_of after))
fed_held start before after fresh link result new f cause others = by_talks fresh.talk link.talk refl new.fresh f
  where
    by_talks : (first told : Option Talk) → link.talk ≡ told → IsFresh first → Feeds start (sight_of before) first result (sight_of after) told
        → IfSome first (λ _. HoldsTalk (IsFedTalk start) (place_of before) (standing_of before) link (standing_of after))
    by_talks None told is unsaid then = tt
    by_talks (Some first) None is unsaid then =
        let clash : None ≡ with_sent (with_taken (Some first) (length (asked_bytes then.tolds ++ then.last))) then.sent = then.passes.moved in
        absurd (cc)
    by_talks (Some first) (Some now) is unsaid then = record {
      talk = now;
      told_is = is;
      so = record {
        result = result;
        looks = looks_of before;
        from_looks = refl;
        more = looks_of after;
        to_looks = refl;
        feeds = subst (λ talk. Feeds start (sight_of before) talk result (sight_of after) (Some now))
            (begun first (Some now) (length (asked_bytes then.tolds ++ then.last)) then.sent unsaid then.passes.moved) then;
        others = others;
        cause = cause_begun fresh link now result new cause;
      };
    }

-- ---- a talk by a trade: a feed, or a session

-- all feeds of a pass begin with one map
one_map : (done : Trade) (pass : ℕ) (map other : Map) → IsFeedBy done pass map → IsFeedBy done pass other → map ≡ other
one_map trade.Sessions pass map other first second = absurd first
one_map (trade.Feeds feed start) pass map other (at, is) (there, same) = is ∙ sym same

module _ (done : Trade) (place : Place) (from to : Standing) where
  pub held_feed : (map : Map) (fresh : Option Talk) (link : AtLink) → IsFeedBy done place.pass map
      → IfSome fresh (λ _. HoldsTalk (IsFedTalk map) place from link to)
      → IfSome fresh (λ _. HoldsTalk (IsHeldBy done) place from link to)
  held_feed map None link by p = tt
  held_feed map (Some talk) link by p = record {
    talk = p.talk;
    told_is = p.told_is;
    so = record {
      fed = λ other also. subst (λ m. IsFedTalk m place from (talk_over link p.talk) to)
          (one_map done place.pass map other by also) p.so;
      session = λ none. absurd (none map by);
    };
  }

  pub held_session : (fresh : Option Talk) (link : AtLink) → IsNoFeed done place.pass
      → IfSome fresh (λ _. HoldsTalk IsServedTalk place from link to)
      → IfSome fresh (λ _. HoldsTalk (IsHeldBy done) place from link to)
  held_session None link none p = tt
  held_session (Some talk) link none p =
      record { talk = p.talk; told_is = p.told_is; so = record { fed = λ map by. absurd (none map by); session = λ _. p.so } }

  pub move_feed : OthersAdd place.pass from.seen to.seen → HoldsSinceThen from to → MovesOn (feeds_at done) place from to
  move_feed others holds = record { extends = others_begin place.pass from.seen to.seen others; holds = holds; quiet = λ _. others }

  pub move_session : IsNoFeed done place.pass → MovesOn (λ _. ⊥) place from to → MovesOn (feeds_at done) place from to
  move_session none p = record { extends = p.extends; holds = p.holds; quiet = λ (map, by). absurd (none map by) }
