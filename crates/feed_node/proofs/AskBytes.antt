-- Asks, by what is held of them.
use Rattle.std.proofs.Common.{inl, inr, ℕ, List, IfErr, IfOk, IsErrOf, MatchOption, None, Option, Some, Ok, Err, Result, subst, rules}
use Rattle.follow_proto.specs.declared.asks.Ask.{Ask}
use Rattle.follow_proto.specs.Feeds.{ask_bytes}
use Rattle.wire.specs.Talks.{Talk}
use Rattle.path_client.specs.Taking.{NothingLeft, Takes}
use Rattle.feed_node.specs.declared.feeding.FeedFault.{FeedFault}
use Rattle.feed_node.specs.declared.feeding.FeedFault.TheVariants as fault
use Rattle.feed_node.specs.Feeding.{IsBegun}
use Rattle.feed_node.specs.Asking.{EndsBetween, Judges, LacksAsk, LacksRest}

module _ (held : List ℕ) (before after : Option Talk) (takes : Takes before after held) (end : IsBegun held → NothingLeft after) where
  pub ask_came : (result : Result (Option Ask) FeedFault) → Judges held result
      → IfOk result (λ found. MatchOption found (EndsBetween before after) (λ ask. Takes before after (ask_bytes ask.known)))
  ask_came (Ok None) e = record { none = subst (Takes before after) e takes; end = end (inl e) }
  ask_came (Ok (Some ask)) e = subst (Takes before after) e takes
  ask_came (Err why) e = tt

  pub ask_lacks : (result : Result (Option Ask) FeedFault) → Judges held result → IfErr result (LacksAsk before after)
  ask_lacks (Ok found) e = tt
  ask_lacks (Err (fault.Torn have)) e = record { last = held; takes = takes; is = (e.0, e.1, end (inr e.1)) }
  ask_lacks (Err (fault.BadAsk byte)) e = record { last = held; takes = takes; is = e }
  ask_lacks (Err fault.ReadFault) e = absurd e
  ask_lacks (Err fault.WriteFault) e = absurd e

-- what is held whole is judged, and no fault of the link is told
pub none_failed : (P : Type 0) (held : List ℕ) (result : Result (Option Ask) FeedFault) → Judges held result → IsErrOf result fault.ReadFault → P
none_failed P held (Ok found) e is = search rules
none_failed P held (Err (fault.Torn have)) e is = search rules
none_failed P held (Err (fault.BadAsk byte)) e is = search rules
none_failed P held (Err fault.ReadFault) e is = absurd e
none_failed P held (Err fault.WriteFault) e is = absurd e

pub rest_lacks : (before after : Option Talk) → LacksRest before after → LacksAsk before after fault.ReadFault
rest_lacks before after p = record { last = p.held; takes = p.takes; is = p.begun }
