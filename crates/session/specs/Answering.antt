-- What one request gets.
use Rattle.std.specs.Prelude.{◌≡◌, ◌<◌, ℕ, Bool, IsTrue, IsFalse, List, [], MatchOption, None, Option, Some, map}
use Rattle.moves.specs.declared.Cell.{Cell}
use Rattle.moves.specs.declared.Move.{Move}
use Rattle.moves.specs.Moves.{number_of}
use Rattle.versions.specs.Answers.{Answer, IsAnswer, IsWalk}
use Rattle.versions.specs.Databases.{Versioned}
use Rattle.walker.specs.Walks.{IsAhead, Walking}
use Rattle.path_core.specs.Histories.{published_prefix}
use Rattle.query_proto.specs.declared.replies.Reply.{Reply}
use Rattle.query_proto.specs.declared.replies.Reply.TheVariants as reply
use Rattle.query_proto.specs.declared.requests.Request.{Request}
use Rattle.query_proto.specs.declared.requests.Request.TheVariants as request
use Rattle.session.specs.declared.answers.Answered.{Answered}
use Rattle.session.specs.declared.answers.PathAt.{PathAt}
use Rattle.session.specs.Desks.{AddsNone}
use Rattle.session.specs.Standing.{AtDesk, HoldsSince, stands}
use Rattle.session.specs.Served.{Serves, ServesRequest, TellsAnswer}

-- the two ends of a query whose reply is a path
abbrev pub ends_of : Request → Reply → Option PathAt
ends_of (request.Query start goal) (reply.Path version cost) = Some (record { start = start; goal = goal })
ends_of _ _ = None

-- The request is served by that reply. Where it is a path, its ends are told, and the moves after it are the walk of
-- the held version between them, and else there are none.
pub record Answers (old : AtDesk) (asked : Request) (answered : Answered) (new : AtDesk) : Type 0 where
  pub moves : List Move
  pub serves : ServesRequest old.place asked (stands old) answered.reply moves (stands new)
  pub path : answered.path ≡ ends_of asked answered.reply
  pub walk : MatchOption answered.path (moves ≡ []) (λ at. IsWalk new.version.map new.version.comps at.start at.goal moves)

-- a request at a desk is served by that reply, with no moves after it
abbrev pub ServesAt : AtDesk → Request → Reply → AtDesk → Type 0
ServesAt old asked told new = Serves old.place asked (stands old) told [] (stands new)

-- Entries of others apart, the published version is held then, or a newer one than the held one was published.
pub record Freshens (old : AtDesk) (fresh : Bool) (new : AtDesk) : Type 0 where
  pub others : AddsNone old new
  pub holds : HoldsSince (stands old) (stands new)
  pub published : IsTrue fresh → new.version.prefix ≡ published_prefix new.seen
  pub newer : IsFalse fresh → (new.version.prefix ≡ old.version.prefix) × (old.version.prefix < published_prefix new.seen)

-- The reply tells the answer of a version. Where it is a path, its ends are told, and the moves after it are the walk
-- between them.
pub record AnswersBy (version : Versioned) (start goal : Cell) (answered : Answered) : Type 0 where
  pub answer : Answer
  pub moves : List Move
  pub is : IsAnswer version start goal answer
  pub tells : TellsAnswer version.prefix answer answered.reply moves
  pub path : answered.path ≡ ends_of (request.Query start goal) answered.reply
  pub walk : MatchOption answered.path (moves ≡ []) (λ at. IsWalk version.map version.comps at.start at.goal moves)

-- ---- what is written of the moves

-- the request is served by that reply, and the moves after it have these bytes
pub record Tells (old : AtDesk) (asked : Request) (told : Reply) (bytes : List ℕ) (new : AtDesk) : Type 0 where
  pub moves : List Move
  pub bytes_are : bytes ≡ map number_of moves
  pub serves : ServesRequest old.place asked (stands old) told moves (stands new)

-- the reply tells the answer of a version, and the moves after it have these bytes
pub record TellsBy (version : Versioned) (start goal : Cell) (told : Reply) (bytes : List ℕ) : Type 0 where
  pub answer : Answer
  pub moves : List Move
  pub is : IsAnswer version start goal answer
  pub tells : TellsAnswer version.prefix answer told moves
  pub bytes_are : bytes ≡ map number_of moves

-- these are the bytes of the moves that are ahead of a walk
abbrev pub AreBytesAhead : Walking → List ℕ → Type 0
AreBytesAhead walk bytes = (moves : List Move) → IsAhead walk moves → bytes ≡ map number_of moves
