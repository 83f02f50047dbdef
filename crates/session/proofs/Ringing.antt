-- Builds at rings, one after the other.
use Rattle.std.proofs.Common.{◌≡◌, ℕ, List, [], ◌∷◌, ◌++◌, None, Option, Some, inl, inr, refl, sym, subst, ap, ◌∙◌, arith}
use Rattle.std.proofs.lemmas.List.Sums.{fold_push}
use Rattle.path_core.specs.Passes.{BeginsWith}
use Rattle.path_core.proofs.Passing.{begins_then}
use Rattle.path_core.specs.declared.entry.Entry.TheVariants.{Publish}
use Rattle.query_proto.specs.declared.replies.Reply.{Reply}
use Rattle.query_proto.specs.declared.replies.Reply.TheVariants as reply
use Rattle.query_proto.specs.declared.requests.Request.TheVariants as request
use Rattle.path_core.specs.declared.entry.Entry.{Entry}
use Rattle.wire.specs.Causes.{one_more}
use Rattle.session.specs.declared.builder.BuildTotals.{BuildTotals}
use Rattle.session.specs.Builders.{BuildRun, HasBuilt, count_reply, no_totals}
use Rattle.session.specs.Conversations.{NoFewer, Rests}
use Rattle.session.specs.Served.{ServesBuild, ServesRequest}
use Rattle.session.specs.Standing.{IsHeldSince, Meanwhile, Place, Raises, Standing}
use Rattle.session.proofs.Meanwhile.{Grows, enters_grows, meanwhile_begin, meanwhile_grows, meanwhile_none, meanwhile_then}

-- ---- a while in which nothing was entered

pub no_fewer_itself : (looks : Option ℕ) → NoFewer looks looks
no_fewer_itself None = refl
no_fewer_itself (Some count) = (count, refl, omega arith)

pub no_fewer_then : (before mid after : Option ℕ) → NoFewer before mid → NoFewer mid after → NoFewer before after
no_fewer_then None mid after same more = subst (λ told. NoFewer told after) same more
no_fewer_then (Some count) mid after (between, is, less) more =
    let then = subst (λ told. NoFewer told after) is more in
    (then.0, then.1, omega (arith, less, then.2))

-- looks that rise are no fewer
pub raises_no_fewer : (before after : Option ℕ) → Raises before after → NoFewer before after
raises_no_fewer None after same = same
raises_no_fewer (Some count) after (more, is, less) = (more, is, omega (arith, less))

pub no_fewer_raises : (before mid after : Option ℕ) → NoFewer before mid → Raises mid after → Raises before after
no_fewer_raises None mid after same more = subst (λ told. Raises told after) same more
no_fewer_raises (Some count) mid after (between, is, less) more =
    let then = subst (λ told. Raises told after) is more in
    (then.0, then.1, omega (arith, less, then.2))

-- what is held since, over two whiles
pub held_then : (before mid after : List Entry) (old held new : ℕ) → BeginsWith mid before → BeginsWith after mid → IsHeldSince before old mid held
    → IsHeldSince mid held after new → IsHeldSince before old after new
held_then before mid after old held new first second h k = elim k [
  | inl same ↦ elim h [
    | inl e ↦ inl (same ∙ e)
    | inr w ↦ inr (record { at = w.at; later = w.later; earlier = begins_then w.at mid after w.earlier second; is = same ∙ w.is })
  ]
  | inr w ↦ inr (record { at = w.at; later = begins_then before mid w.at first w.later; earlier = w.earlier; is = w.is })
]

pub rests_none : (place : Place) (standing : Standing) → Rests place standing standing
rests_none place standing = record {
  others = meanwhile_none place standing.seen;
  holds = inl refl;
  looks = no_fewer_itself standing.looks;
}

pub rests_then : (place : Place) (old mid new : Standing) → Rests place old mid → Rests place mid new → Rests place old new
rests_then place old mid new p q = record {
  others = meanwhile_then place old.seen mid.seen new.seen p.others q.others;
  holds = held_then old.seen mid.seen new.seen old.held mid.held new.held (meanwhile_begin place old.seen mid.seen p.others)
      (meanwhile_begin place mid.seen new.seen q.others) p.holds q.holds;
  looks = no_fewer_then old.looks mid.looks new.looks p.looks q.looks;
}

-- ---- a build after such a while

pub build_behind : (place : Place) (before mid : List Entry) (told : Reply) (new : Standing) → Meanwhile place before mid
    → ServesBuild place mid told new → ServesBuild place before told new
build_behind place before mid (reply.Path version cost) new first s = absurd s
build_behind place before mid (reply.Unreachable version) new first s = absurd s
build_behind place before mid (reply.Refused version why) new first s = absurd s
build_behind place before mid (reply.Accepted number) new first s = absurd s
build_behind place before mid (reply.EditRefused why) new first s = absurd s
build_behind place before mid (reply.Published prefix built kept) new first s = record {
  looked = s.looked;
  taken = s.taken;
  between = s.between;
  to_look = meanwhile_then place before mid s.looked first s.to_look;
  to_job = s.to_job;
  to_publish = s.to_publish;
  own = s.own;
  all = s.all;
  newer = s.newer;
  newest = s.newest;
  counts = s.counts;
}
build_behind place before mid (reply.NothingNew prefix) new first s = record {
  others = meanwhile_then place before mid new.seen first s.others;
  at = s.at;
  later = begins_then before mid s.at (meanwhile_begin place before mid first) s.later;
  earlier = s.earlier;
  published = s.published;
  accepted = s.accepted;
}
build_behind place before mid (reply.Overtaken by) new first s = record {
  looked = s.looked;
  taken = s.taken;
  to_look = meanwhile_then place before mid s.looked first s.to_look;
  to_job = s.to_job;
  to_publish = s.to_publish;
  newer = s.newer;
  published = s.published;
  enough = s.enough;
}
build_behind place before mid (reply.Status version accepted cells comps runs) new first s = absurd s
build_behind place before mid reply.Done new first s = absurd s
build_behind place before mid (reply.Malformed kind length) new first s = absurd s
build_behind place before mid reply.Welcome new first s = absurd s
build_behind place before mid reply.NoMemory new first s = (meanwhile_then place before mid new.seen first s.0, s.1)

-- what a build sees goes on from what was seen before it
pub build_grows : (place : Place) (before : List Entry) (told : Reply) (new : Standing) → ServesBuild place before told new → Grows place before new.seen
build_grows place before (reply.Path version cost) new s = absurd s
build_grows place before (reply.Unreachable version) new s = absurd s
build_grows place before (reply.Refused version why) new s = absurd s
build_grows place before (reply.Accepted number) new s = absurd s
build_grows place before (reply.EditRefused why) new s = absurd s
build_grows place before (reply.Published prefix built kept) new s =
    enters_grows place (Publish place.pass prefix) before new.seen refl (record {
      between = s.between;
      others = meanwhile_then place before s.taken s.between (meanwhile_then place before s.looked s.taken s.to_look s.to_job) s.to_publish;
      own = s.own;
    })
build_grows place before (reply.NothingNew prefix) new s = meanwhile_grows place before new.seen s.others
build_grows place before (reply.Overtaken by) new s =
    meanwhile_grows place before new.seen
    (meanwhile_then place before s.taken new.seen (meanwhile_then place before s.looked s.taken s.to_look s.to_job) s.to_publish)
build_grows place before (reply.Status version accepted cells comps runs) new s = absurd s
build_grows place before reply.Done new s = absurd s
build_grows place before (reply.Malformed kind length) new s = absurd s
build_grows place before reply.Welcome new s = absurd s
build_grows place before reply.NoMemory new s = meanwhile_grows place before new.seen s.0

pub request_behind : (place : Place) (old mid : Standing) (told : Reply) (new : Standing) → Rests place old mid
    → ServesRequest place request.Build mid told [] new → ServesRequest place request.Build old told [] new
request_behind place old mid told new first s = record {
  served = (build_behind place old.seen mid.seen told new first.others s.served.0, refl);
  holds = held_then old.seen mid.seen new.seen old.held mid.held new.held (meanwhile_begin place old.seen mid.seen first.others)
      (build_grows place mid.seen told new s.served.0).begins first.holds s.holds;
  own = s.own;
  looks = no_fewer_raises old.looks mid.looks new.looks first.looks s.looks;
}

-- ---- builds

-- one build more
pub run_more : (place : Place) (old : Standing) (replies : List Reply) (mid : Standing) (told : Reply) (new : Standing) → BuildRun place old replies mid
    → ServesRequest place request.Build mid told [] new → BuildRun place old (replies ++ told ∷ []) new
run_more place old [] mid told new run s = (new, request_behind place old mid told new run s, rests_none place new)
run_more place old (first ∷ rest) mid told new (point, serves, run) s = (point, serves, run_more place point rest mid told new run s)

pub built_none : (place : Place) (old : Standing) (rung : ℕ) → HasBuilt place old no_totals rung old rung
built_none place old rung = record { replies = []; run = rests_none place old; totals_are = refl; rings = refl }

pub built_more : (place : Place) (old : Standing) (totals : BuildTotals) (before : ℕ) (mid : Standing) (rung : ℕ) (told : Reply) (new : Standing)
    (counted : BuildTotals) (after : ℕ) → HasBuilt place old totals before mid rung → ServesRequest place request.Build mid told [] new
    → counted ≡ count_reply totals told → after ≡ one_more rung → HasBuilt place old counted before new after
built_more place old totals before mid rung told new counted after b s counts rings = record {
  replies = b.replies ++ told ∷ [];
  run = run_more place old b.replies mid told new b.run s;
  totals_are = counts ∙ ap (λ t. count_reply t told) b.totals_are ∙ sym (fold_push count_reply no_totals b.replies told);
  rings = rings ∙ ap one_more b.rings ∙ sym (fold_push (λ count _. one_more count) before b.replies told);
}
