-- The answer to a query, as it is told.
use Rattle.std.proofs.Common.{◌≡◌, ℕ, ◌+◌, ◌<◌, List, ◌++◌, Some, None, refl, sym, ap, ◌∙◌, append_assoc}
use Rattle.std.specs.Prelude.{codes}
use Rattle.std.specs.Fmt.{decimal}
use Rattle.std.proofs.lemmas.List.{append-nil}
use Rattle.root_cost.specs.declared.Cost.{Cost}
use Rattle.moves.specs.declared.Cell.{Cell}
use Rattle.moves.specs.declared.Move.{Move}
use Rattle.moves.specs.declared.TheConstants.{MAX_PASSABLE}
use Rattle.moves.specs.Moves.{move_name}
use Rattle.moves.specs.Paths.{IsLeastCost, cost_of}
use Rattle.moves.proofs.LawsOfPaths.{same_cost_of_best}
use Rattle.versions.specs.Databases.{Versioned}
use Rattle.versions.specs.Answers.{Answer, refused, path}
use Rattle.versions.specs.Queries.{AreEnds, IsRefusal, refusal_text}
use Rattle.versions.specs.declared.query.QueryRefusal.{QueryRefusal}
use Rattle.walker.specs.Walks.{Walking, Advances, HasFewAhead, BeginsWalk}
use Rattle.walker.proofs.Following.{IsFollowed, followed_none, followed_more, followed_all, turns_left}
use Rattle.path_replay.specs.Texts.{answer_text, names_text, path_text, query_text}
use Rattle.path_replay.specs.Inside.{AddsAnswer, AddsNames, SaysAnswer}

-- a walk that was told for some turns
abbrev pub IsTold : Walking → Walking → List ℕ → List ℕ → ℕ → Type 0
IsTold start walk before text turns = IsFollowed (λ moves. before ++ names_text moves) (λ told rest. told ++ names_text rest) start walk text turns

pub told_none : (start : Walking) (text : List ℕ) → HasFewAhead start → IsTold start start text text 0
told_none start text few =
    followed_none (λ moves. text ++ names_text moves) (λ told rest. told ++ names_text rest) start text (λ moves. refl) few

module _ (start walk : Walking) (before text : List ℕ) (turns : ℕ) (p : IsTold start walk before text turns) where
  pub turns_to_come : turns < MAX_PASSABLE
  turns_to_come = turns_left _ _ start walk text turns p

  pub told_more : (next : Walking) (after : List ℕ) (move : Move) → Advances walk next (Some move) → after ≡ text ++ (codes " " ++ move_name move)
      → IsTold start next before after (turns + 1)
  told_more next after move step is =
      followed_more _ _ start walk text turns p next after move step
      (λ rest. sym (append_assoc text (codes " " ++ move_name move) (names_text rest)) ∙ ap (λ t. t ++ names_text rest) (sym is))

  pub told_all : (next : Walking) → Advances walk next None → AddsNames start before text
  told_all next step = λ moves ahead. sym (followed_all _ _ start walk text turns p next step moves ahead ∙ append-nil text)

-- ---- what is said of an answer

-- the pieces of a path
path_whole : (old mid new : List ℕ) (moves : List Move) (cost whole : Cost) → cost ≡ whole
    → mid ≡ old ++ (codes "cost " ++ (decimal cost.straight ++ (codes " " ++ (decimal cost.diagonal ++ codes " moves"))))
    → new ≡ mid ++ names_text moves → new ≡ old ++ path_text whole moves
path_whole old mid new moves cost whole same head named = rw (named, head, same) (simp append_assoc)

-- and of a query
query_whole : (old mid new : List ℕ) (prefix whole : ℕ) (answer : Answer) → prefix ≡ whole
    → mid ≡ old ++ (codes "version " ++ (decimal prefix ++ codes " ")) → new ≡ mid ++ answer_text answer → new ≡ old ++ query_text whole answer
query_whole old mid new prefix whole answer same head said = rw (said, head, same) (simp append_assoc)

pub says_refusal : (version : Versioned) (start goal : Cell) (why : QueryRefusal) (old new : List ℕ) → IsRefusal version.map start goal why
    → new ≡ old ++ refusal_text why → SaysAnswer version start goal old new
says_refusal version start goal why old new is added = record { answer = refused why; is = is; added = added }

-- the least cost is that of the walk
pub says_walk : (version : Versioned) (start goal : Cell) (walk : Walking) (cost : Cost) (old mid new : List ℕ) → AreEnds version.map start goal
    → BeginsWalk version start goal walk → IsLeastCost version.map start goal (Some cost)
    → mid ≡ old ++ (codes "cost " ++ (decimal cost.straight ++ (codes " " ++ (decimal cost.diagonal ++ codes " moves"))))
    → AddsNames walk mid new → SaysAnswer version start goal old new
says_walk version start goal walk cost old mid new ends begins least head named =
    let same : cost ≡ cost_of begins.moves = sym least.2 ∙ same_cost_of_best version.map start goal least.0 begins.moves least.1 begins.is.best in
    record {
      answer = path begins.moves;
      is = (ends, begins.is);
      added = path_whole old mid new begins.moves cost (cost_of begins.moves) same head (named begins.moves begins.ahead);
    }

pub adds_answer : (version : Versioned) (start goal : Cell) (prefix : ℕ) (old mid new : List ℕ) → prefix ≡ version.prefix
    → mid ≡ old ++ (codes "version " ++ (decimal prefix ++ codes " ")) → SaysAnswer version start goal mid new → AddsAnswer version start goal old new
adds_answer version start goal prefix old mid new is head said = record {
  answer = said.answer;
  is = said.is;
  added = query_whole old mid new prefix version.prefix said.answer is head said.added;
}
