-- What follows of a session at a board that nobody else calls.
use Rattle.std.specs.Prelude.{◌≡◌, ℕ, List, None}
use Rattle.moves.specs.declared.Move.{Move}
use Rattle.query_proto.specs.declared.replies.Reply.TheVariants as reply
use Rattle.query_proto.specs.declared.requests.Request.TheVariants as request
use Rattle.session.specs.Served.{ServesRequest}
use Rattle.session.specs.Standing.{Place, Standing}

-- on a board of its own no build is overtaken
abbrev pub OwnBuildsAreNotOvertaken : Type 0
OwnBuildsAreNotOvertaken =
    (place : Place) (old new : Standing) (by : ℕ) (moves : List Move) → place.shared ≡ None
    → ServesRequest place request.Build old (reply.Overtaken by) moves new → ⊥
