-- What a builder does at each ring, and how it counts that.
use Rattle.std.specs.Prelude.{◌≡◌, ℕ, List, [], ◌∷◌}
use Rattle.std.specs.List.{fold}
use Rattle.query_proto.specs.declared.replies.Reply.{Reply}
use Rattle.query_proto.specs.declared.replies.Reply.TheVariants as reply
use Rattle.query_proto.specs.declared.requests.Request.TheVariants as request
use Rattle.wire.specs.Causes.{one_more}
use Rattle.session.specs.declared.builder.BuildTotals.{BuildTotals}
use Rattle.session.specs.Conversations.{Rests}
use Rattle.session.specs.Served.{ServesRequest}
use Rattle.session.specs.Standing.{Place, Standing}

-- nothing was answered yet
abbrev pub no_totals : BuildTotals
no_totals = record { published = 0; overtaken = 0; nothing = 0; no_memory = 0 }

-- the totals with one reply more; a build gets no other reply than these four
abbrev pub count_reply : BuildTotals → Reply → BuildTotals
count_reply totals (reply.Published prefix built kept) = record totals { published = one_more totals.published }
count_reply totals (reply.Overtaken by) = record totals { overtaken = one_more totals.overtaken }
count_reply totals (reply.NothingNew prefix) = record totals { nothing = one_more totals.nothing }
count_reply totals reply.NoMemory = record totals { no_memory = one_more totals.no_memory }
count_reply totals _ = totals

-- how often each reply was given
abbrev pub totals_of : List Reply → BuildTotals
totals_of replies = fold count_reply no_totals replies

-- a count of rings after this many answers
abbrev pub rings_after : List Reply → ℕ → ℕ
rings_after replies before = fold (λ count _. one_more count) before replies

-- builds one after the other, each answered so; others may add entries between them and after the
-- last
abbrev pub BuildRun : Place → Standing → List Reply → Standing → Type 0
BuildRun place old [] new = Rests place old new
BuildRun place old (told ∷ rest) new =
    (point : Standing) × ServesRequest place request.Build old told [] point × BuildRun place point rest new

-- WHAT A BUILDER DID: one build for each ring, and the totals count what they were answered
pub record HasBuilt (place : Place) (old : Standing) (totals : BuildTotals) (rung_before : ℕ) (new : Standing)
    (rung_after : ℕ) : Type 0 where
  pub replies : List Reply
  pub run : BuildRun place old replies new
  pub totals_are : totals ≡ totals_of replies
  pub rings : rung_after ≡ rings_after replies rung_before
