-- A near walk and its cost are the answer of a near version, and what is told of its size.
use Rattle.std.proofs.Common.{◌≡◌, ℕ, ◌+◌, ◌<◌, ◌≤◌, not, List, ◌++◌, codes, Some, None, refl, sym, ap, subst, ◌∙◌, append_assoc, arith}
use Rattle.std.specs.Fmt.{decimal}
use Rattle.std.proofs.lemmas.List.{append-nil}
use Rattle.std.proofs.lemmas.List.Sums.{count_by-le-length}
use Rattle.root_cost.specs.declared.Cost.{Cost}
use Rattle.root_cost.specs.declared.TheConstants.{MAX_STEPS}
use Rattle.moves.specs.declared.Cell.{Cell}
use Rattle.moves.specs.declared.Move.{Move}
use Rattle.moves.specs.declared.TheConstants.{MAX_PASSABLE}
use Rattle.moves.specs.Moves.{is_diagonal, move_name}
use Rattle.moves.specs.Paths.{Reaches, cost_of, IsLeastCost}
use Rattle.moves.proofs.LawsOfPaths.{same_cost_of_best}
use Rattle.versions.specs.Databases.{Versioned}
use Rattle.versions.specs.Queries.{AreEnds}
use Rattle.near_rows.specs.NearVersions.{NearVersioned, IsNearVersion, IsWidest, near_runs_of}
use Rattle.near_rows.specs.NearWalks.{NearWalking, Advances, HasFewAhead, BeginsNearWalk}
use Rattle.near_rows.proofs.Following.{IsFollowed, followed_none, followed_more, followed_all, turns_left}
use Rattle.path_commands.specs.Texts.{check_text, line, names_text, near_text, unreachable_text}
use Rattle.path_commands.specs.Queries.{TellsPath}
use Rattle.path_commands.specs.NearQueries.{AppendsNear, AppendsSizes, IsNearOf, TellsNear, TellsNearAhead, TellsNearAnswer, unreachable, path}

-- a near walk that was told for some turns
abbrev pub IsNearTold : NearWalking → NearWalking → List ℕ → List ℕ → ℕ → Type 0
IsNearTold start walk before text turns = IsFollowed (λ moves. before ++ names_text moves) (λ told rest. told ++ names_text rest) start walk text turns

pub near_told_none : (start : NearWalking) (text : List ℕ) → HasFewAhead start → IsNearTold start start text text 0
near_told_none start text few =
    followed_none (λ moves. text ++ names_text moves) (λ told rest. told ++ names_text rest) start text (λ moves. refl) few

module _ (start walk : NearWalking) (before text : List ℕ) (turns : ℕ) (p : IsNearTold start walk before text turns) where
  pub near_turns_to_come : turns < MAX_PASSABLE
  near_turns_to_come = turns_left _ _ start walk text turns p

  pub near_told_more : (next : NearWalking) (after : List ℕ) (move : Move) → Advances walk next (Some move) → after ≡ text ++ (codes " " ++ move_name move)
      → IsNearTold start next before after (turns + 1)
  near_told_more next after move step is =
      followed_more _ _ start walk text turns p next after move step
      (λ rest. sym (append_assoc text (codes " " ++ move_name move) (names_text rest)) ∙ ap (λ t. t ++ names_text rest) (sym is))

  pub near_told_all : (next : NearWalking) → Advances walk next None → AppendsNear start before text
  near_told_all next step = λ moves ahead. sym (followed_all _ _ start walk text turns p next step moves ahead ∙ append-nil text)

-- a near version tells of itself what it tells as that of its version
pub near_of_itself : (near : NearVersioned) → IsNearVersion near → IsNearOf near.version near
near_of_itself near is = record { same = refl; is = is }

pub tells_no_path : (near : NearVersioned) (start goal : Cell) (text : List ℕ) → IsNearVersion near → AreEnds near.version.map start goal
    → (Reaches near.version.map start goal → ⊥) → text ≡ unreachable_text → TellsNearAnswer near.version start goal text
tells_no_path near start goal text is ends none told = record {
  near = near;
  of = near_of_itself near is;
  ends = ends;
  answer = unreachable;
  is = none;
  told = told;
}

module _ (near : NearVersioned) (start goal : Cell) (walk : NearWalking) (begins : BeginsNearWalk near start goal walk) (cost : Cost)
    (least : IsLeastCost near.version.map start goal (Some cost)) where
  -- the least cost is that of the walk
  same_cost : cost ≡ cost_of begins.moves
  same_cost = sym least.2 ∙ same_cost_of_best near.version.map start goal least.0 begins.moves least.1 begins.is.best

  pub tells_near_walk : (text : List ℕ) → IsNearVersion near → AreEnds near.version.map start goal → TellsNearAhead walk cost text
      → TellsNearAnswer near.version start goal text
  tells_near_walk text is ends told = record {
    near = near;
    of = near_of_itself near is;
    ends = ends;
    answer = path begins.moves;
    is = begins.is;
    told = subst (λ c. TellsPath c begins.moves text) same_cost (told begins.moves begins.ahead);
  }

  pub few_straight : cost.straight ≤ MAX_STEPS
  few_straight =
      let most = count_by-le-length (λ move. not (is_diagonal move)) begins.moves in
      let few = begins.few in
      let same = ap (λ c. c.straight) same_cost in
      omega arith

  pub few_diagonal : cost.diagonal ≤ MAX_STEPS
  few_diagonal =
      let most = count_by-le-length is_diagonal begins.moves in
      let few = begins.few in
      let same = ap (λ c. c.diagonal) same_cost in
      omega arith

-- ---- sizes

pub sizes_written : (near : NearVersioned) (old mid new : List ℕ) (runs wide widest : ℕ) → runs ≡ near_runs_of near.nearby → IsWidest near.nearby widest → wide ≡ widest
    → mid ≡ old ++ line (codes "near " ++ decimal runs) → new ≡ mid ++ line (codes "widest " ++ decimal wide) → AppendsSizes near old new
sizes_written near old mid new runs wide widest counted greatest same first second = record {
  widest = widest;
  greatest = greatest;
  is =
      (let x : List ℕ = line (codes "near " ++ decimal (near_runs_of near.nearby)) in
      let y : List ℕ = line (codes "widest " ++ decimal widest) in
      let one : mid ≡ old ++ x = first ∙ ap (λ n. old ++ line (codes "near " ++ decimal n)) counted in
      second ∙ ap (λ n. mid ++ line (codes "widest " ++ decimal n)) same ∙ ap (λ t. t ++ y) one ∙ append_assoc old x y);
}

pub tells_near : (version : Versioned) (near : NearVersioned) (size text : List ℕ) → IsNearOf version near → size ≡ check_text near.version
    → AppendsSizes near size text → TellsNear version text
tells_near version near size text of told more = record {
  near = near;
  of = of;
  widest = more.widest;
  greatest = more.greatest;
  is = more.is ∙ ap (λ t. t ++ near_text (near_runs_of near.nearby) more.widest) (told ∙ ap check_text of.same);
}
