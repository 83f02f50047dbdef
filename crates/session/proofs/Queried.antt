-- What queries get, and replies without moves.
use Rattle.std.proofs.Common.{◌≡◌, ◌⊎◌, ◌<◌, ℕ, Bool, IsTrue, IsFalse, List, [], Option, Some, None, MatchOption, inl, inr, refl, sym, subst, ap, ◌∙◌, arith}
use Rattle.root_cost.specs.declared.Cost.{Cost}
use Rattle.moves.specs.declared.Cell.{Cell}
use Rattle.moves.specs.declared.Move.{Move}
use Rattle.moves.specs.Paths.{cost_of, IsLeastCost, Reaches}
use Rattle.moves.proofs.LawsOfPaths.{same_cost_of_best}
use Rattle.versions.specs.Answers.{Answer, path, refused, unreachable, IsAnswer, IsWalk}
use Rattle.versions.specs.Databases.{Versioned, IsVersion}
use Rattle.versions.specs.Queries.{AreEnds, IsRefusal}
use Rattle.versions.proofs.BestWalks.{walks_are_best}
use Rattle.walker.specs.Walks.{BeginsWalk, CostsAhead, Walking}
use Rattle.query_proto.specs.declared.replies.Reply.TheVariants as reply
use Rattle.session.specs.declared.answers.Answered.{Answered}
use Rattle.session.specs.declared.answers.PathAt.{PathAt}
use Rattle.query_proto.specs.declared.replies.Reply.{Reply}
use Rattle.query_proto.specs.declared.requests.Request.{Request}
use Rattle.query_proto.specs.declared.requests.Request.TheVariants as request
use Rattle.versions.specs.declared.query.QueryRefusal.{QueryRefusal}
use Rattle.path_core.specs.Histories.{published_prefix, IsVersionAt}
use Rattle.session.specs.Answering.{Answers, AnswersBy, AreBytesAhead, Freshens, ServesAt, Tells, TellsBy, ends_of}
use Rattle.session.specs.Desks.{IsCall}
use Rattle.session.specs.Served.{LacksVersion, LooksFor, OwnQueriesAreAnswered, ServesRequest, TellsAnswer, TellsPath, why_of}
use Rattle.session.specs.Standing.{AtDesk, HoldsItsOwn, HoldsSince, IsSound, Place, Standing, stands}

abbrev pub no_moves : List Move
no_moves = []

-- no path is told, and no moves
pub no_walk : (version : Versioned) (told : Option PathAt) → told ≡ None
    → MatchOption told (no_moves ≡ []) (λ at. IsWalk version.map version.comps at.start at.goal no_moves)
no_walk version told none =
    subst (λ p. MatchOption p (no_moves ≡ []) (λ at. IsWalk version.map version.comps at.start at.goal no_moves)) (sym none) refl

-- a reply that is no path
told_alone : (old : AtDesk) (asked : Request) (told : Reply) (answered : Answered) (new : AtDesk) → answered.reply ≡ told
    → answered.path ≡ None → ends_of asked told ≡ None → ServesRequest old.place asked (stands old) told [] (stands new)
    → Answers old asked answered new
told_alone old asked told answered new is none no_ends serves = record {
  moves = [];
  serves = subst (λ t. ServesRequest old.place asked (stands old) t [] (stands new)) (sym is) serves;
  path = none ∙ sym (ap (ends_of asked) is ∙ no_ends);
  walk = no_walk new.version answered.path none;
}

-- the same, for what the request was found to be
pub told_for : (old : AtDesk) (asked found : Request) (told : Reply) (answered : Answered) (new : AtDesk) → asked ≡ found
    → answered.reply ≡ told → answered.path ≡ None → ends_of found told ≡ None → new.place ≡ old.place
    → HoldsItsOwn new.place (stands new) → ServesAt old found told new → HoldsSince (stands old) (stands new)
    → LooksFor found (stands old) (stands new) → Answers old asked answered new
told_for old asked found told answered new same is none no_ends stays own served holds looks =
    subst (λ a. Answers old a answered new) (sym same)
    (told_alone old found told answered new is none no_ends (record {
      served = served;
      holds = holds;
      own = subst (λ (place : Place). HoldsItsOwn place (stands new)) stays own;
      looks = looks;
    }))

-- a cost that was measured is that of the walk, which is the answer
pub path_answered : (version : Versioned) (start goal : Cell) (cost : Cost) → IsVersion version → AreEnds version.map start goal
    → IsLeastCost version.map start goal (Some cost)
    → AnswersBy version start goal (record { reply = reply.Path version.prefix cost; path = Some (record { start = start; goal = goal }) })
path_answered version start goal cost whole ends (best, is_best, costs) =
    let found = walks_are_best version.map version.order version.comps whole.database start goal (best, is_best.leads) in
    let walk = found.1 in
    let same : cost ≡ cost_of found.0 = sym costs ∙ same_cost_of_best version.map start goal best found.0 is_best walk.best in
    record {
      answer = path found.0;
      moves = found.0;
      is = (ends, walk);
      tells = (ap (reply.Path version.prefix) same, refl);
      path = refl;
      walk = walk;
    }

-- a query that is refused
pub refused_answered : (version : Versioned) (start goal : Cell) (why : QueryRefusal) (answered : Answered) → IsRefusal version.map start goal why
    → answered.reply ≡ reply.Refused version.prefix (why_of why) → answered.path ≡ None → AnswersBy version start goal answered
refused_answered version start goal why answered is told none = record {
  answer = refused why;
  moves = [];
  is = is;
  tells = (told, refl);
  path = none ∙ sym (ap (ends_of (request.Query start goal)) told);
  walk = no_walk version answered.path none;
}

-- the walk that begins is the answer, and its moves were written
pub path_told : (version : Versioned) (start goal : Cell) (walk : Walking) (cost : Cost) (told : Reply) (bytes : List ℕ) → AreEnds version.map start goal
    → BeginsWalk version start goal walk → CostsAhead walk cost → AreBytesAhead walk bytes → told ≡ reply.Path version.prefix cost → TellsBy version start goal told bytes
path_told version start goal walk cost told bytes ends begins costs written is = record {
  answer = path begins.moves;
  moves = begins.moves;
  is = (ends, begins.is);
  tells = (is ∙ ap (reply.Path version.prefix) (costs begins.moves begins.ahead), refl);
  bytes_are = written begins.moves begins.ahead;
}

pub unreachable_told : (version : Versioned) (start goal : Cell) (told : Reply) (bytes : List ℕ) → AreEnds version.map start goal → (Reaches version.map start goal → ⊥)
    → told ≡ reply.Unreachable version.prefix → bytes ≡ [] → TellsBy version start goal told bytes
unreachable_told version start goal told bytes ends apart is none = record {
  answer = unreachable;
  moves = [];
  is = (ends, apart);
  tells = (is, refl);
  bytes_are = none;
}

pub refused_told : (version : Versioned) (start goal : Cell) (why : QueryRefusal) (told : Reply) (bytes : List ℕ) → IsRefusal version.map start goal why
    → told ≡ reply.Refused version.prefix (why_of why) → bytes ≡ [] → TellsBy version start goal told bytes
refused_told version start goal why told bytes is_refused is none = record {
  answer = refused why;
  moves = [];
  is = is_refused;
  tells = (is, refl);
  bytes_are = none;
}

module _ (old : AtDesk) (start goal : Cell) (fresh : Bool) (new : AtDesk) (called : IsCall old new) (p : Freshens old fresh new) where
  -- a query for which the published version is not held
  lacking_served : (told : Reply) → IsFalse fresh → HoldsItsOwn new.place (stands new) → told ≡ reply.NoMemory
      → ServesRequest old.place (request.Query start goal) (stands old) told [] (stands new)
  lacking_served told stale own is = record {
    served = record {
      others = p.others;
      answers = inr (record { reply_is = is; moves_are = refl; newer = (p.newer stale).1; kept = (p.newer stale).0 });
    };
    holds = p.holds;
    own = subst (λ (place : Place). HoldsItsOwn place (stands new)) called.place own;
    looks = called.looks;
  }

  pub lacking_answered : (answered : Answered) → IsFalse fresh → HoldsItsOwn new.place (stands new) → answered.reply ≡ reply.NoMemory
      → answered.path ≡ None → Answers old (request.Query start goal) answered new
  lacking_answered answered stale own is none = record {
    moves = [];
    serves = lacking_served answered.reply stale own is;
    path = none ∙ sym (ap (ends_of (request.Query start goal)) is);
    walk = no_walk new.version answered.path none;
  }

  pub lacking_told : (told : Reply) (bytes : List ℕ) → IsFalse fresh → HoldsItsOwn new.place (stands new) → told ≡ reply.NoMemory
      → bytes ≡ [] → Tells old (request.Query start goal) told bytes new
  lacking_told told bytes stale own is none = record { moves = []; bytes_are = none; serves = lacking_served told stale own is }

  -- a query that is answered by the version that is held, which is the published one
  query_served : (answer : Answer) (told : Reply) (moves : List Move) → IsTrue fresh → IsSound new
      → IsAnswer new.version start goal answer → TellsAnswer new.version.prefix answer told moves
      → ServesRequest old.place (request.Query start goal) (stands old) told moves (stands new)
  query_served answer told moves is_fresh sound is tells =
      let at : IsVersionAt old.place.start old.place.order new.seen new.version.prefix new.version =
      subst (λ (place : Place). IsVersionAt place.start place.order new.seen new.version.prefix new.version) called.place sound.is in
      record {
        served = record {
          others = p.others;
          answers = inl (record {
            answer = answer;
            is = record {
              version = new.version;
              is_version = subst (λ k. IsVersionAt old.place.start old.place.order new.seen k new.version) (p.published is_fresh) at;
              answers = is;
            };
            tells = subst (λ k. TellsAnswer k answer told moves) (p.published is_fresh) tells;
            holds = p.published is_fresh;
          });
        };
        holds = p.holds;
        own = λ _. p.published is_fresh;
        looks = called.looks;
      }

  pub query_answered : (answered : Answered) → IsTrue fresh → IsSound new → AnswersBy new.version start goal answered
      → Answers old (request.Query start goal) answered new
  query_answered answered is_fresh sound by = record {
    moves = by.moves;
    serves = query_served by.answer answered.reply by.moves is_fresh sound by.is by.tells;
    path = by.path;
    walk = by.walk;
  }

  pub query_told : (told : Reply) (bytes : List ℕ) → IsTrue fresh → IsSound new → TellsBy new.version start goal told bytes
      → Tells old (request.Query start goal) told bytes new
  query_told told bytes is_fresh sound by = record {
    moves = by.moves;
    bytes_are = by.bytes_are;
    serves = query_served by.answer told by.moves is_fresh sound by.is by.tells;
  }

no_answer_is_that : (version : ℕ) (answer : Answer) (told : Reply) (moves : List Move) → TellsAnswer version answer told moves → told ≡ reply.NoMemory → ⊥
no_answer_is_that version (refused why) told moves tells is = let clash : reply.Refused version (why_of why) ≡ reply.NoMemory = sym tells.0 ∙ is in absurd (cc)
no_answer_is_that version unreachable told moves tells is = let clash : reply.Unreachable version ≡ reply.NoMemory = sym tells.0 ∙ is in absurd (cc)
no_answer_is_that version (path found) told moves tells is = let clash : reply.Path version (cost_of found) ≡ reply.NoMemory = sym tells.0 ∙ is in absurd (cc)

own_query_is_answered : (place : Place) (start goal : Cell) (old new : Standing) (told : Reply) (moves : List Move) → place.shared ≡ None
    → new.held ≡ published_prefix new.seen → told ≡ reply.NoMemory → TellsPath place start goal new told moves ⊎ LacksVersion old new told moves → ⊥
own_query_is_answered place start goal old new told moves alone own is (inr lacks) =
    let less : old.held < published_prefix new.seen = lacks.newer in
    omega (arith, less, own, lacks.kept)
own_query_is_answered place start goal old new told moves alone own is (inl tells) = no_answer_is_that _ tells.answer told moves tells.tells is

-- no query wants memory on a board of one's own: the version that is held is the published one, before and after
pub own_queries_are_answered : OwnQueriesAreAnswered
own_queries_are_answered place start goal old new told moves alone serves is = own_query_is_answered place start goal old new told moves alone (serves.own alone) is serves.served.answers
