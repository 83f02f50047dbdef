-- No path of the live map costs less than what is open: the theorem on which the end of a search stands.
use Rattle.std.proofs.Common.{◌≡◌, ◌≢◌, ◌⊎◌, ℕ, ◌+◌, ◌/◌, ◌<◌, ◌≤◌, Bool, List, [], ◌∷◌, ◌++◌, length, true, false, sym, ap, subst, ◌∙◌, inl, inr, arith}
use Rattle.std.specs.List.{Contains}
use Rattle.std.proofs.lemmas.Bool.{cases_eq, cases_lt}
use Rattle.root_cost.specs.Costs.{plus_step, sum_of}
use Rattle.root_cost.specs.Keys.{key_of, step_key}
use Rattle.root_cost.proofs.Keys.{at_most_if_key, few_diagonals, key_if_at_most}
use Rattle.root_cost.proofs.Order.{at_most_trans}
use Rattle.moves.specs.declared.Cell.{Cell}
use Rattle.moves.specs.declared.Move.{Move}
use Rattle.moves.specs.declared.TheConstants.{MAX_PASSABLE}
use Rattle.moves.specs.Moves.{IsLegal, is_diagonal}
use Rattle.moves.specs.Paths.{IsBest, Leads, Reaches, cost_of}
use Rattle.moves.proofs.BestPaths.{best_path_exists}
use Rattle.moves.proofs.CostsOfPaths.{cost_of-append, cost_of-cons, moves_of_cost}
use Rattle.moves.proofs.LawsOfPaths.{leads_from}
use Rattle.kept_sources.proofs.Parting.{leads_of_part}
use Rattle.versions.specs.Databases.{Versioned, comp_at}
use Rattle.versions.specs.Answers.{IsWalk}
use Rattle.versions.proofs.BestWalks.{at_one_place}
use Rattle.versions.proofs.Homes.{few_moves}
use Rattle.versions.proofs.Walking.{fewer_moves}
use Rattle.path_image.specs.Answers.{IsHomeOf}
use Rattle.path_image.proofs.Homes.{apart, contains_at, home_of_passable, whole_comp}
use Rattle.live_maps.specs.Told.{Living}
use Rattle.live_maps.proofs.Blocking.{bits_make_live}
use Rattle.live_maps.proofs.Free.{part}
use Rattle.live_search.specs.declared.TheConstants.{NEVER}
use Rattle.live_search.specs.declared.seeking.Seek.{Seek}
use Rattle.live_search.specs.Ends.{IsOpenBelow}
use Rattle.live_search.specs.Sound.{IsAbout, IsBegun, IsSound, IsTold, at, now}
use Rattle.live_search.specs.State.{cost_in, mark_in, told_in}

-- ---- keys of paths

pub key_cons : (move : Move) (moves : List Move) → key_of (cost_of (move ∷ moves)) ≡ step_key (is_diagonal move) + key_of (cost_of moves)
key_cons move moves = ap key_of (cost_of-cons move moves) ∙ key_step (is_diagonal move)
  where
    key_step : (d : Bool) → key_of (plus_step (cost_of moves) d) ≡ step_key d + key_of (cost_of moves)
    key_step true = omega arith
    key_step false = omega arith

pub key_append : (first rest : List Move) → key_of (cost_of (first ++ rest)) ≡ key_of (cost_of first) + key_of (cost_of rest)
key_append first rest = ap key_of (cost_of-append first rest) ∙ (let e : key_of (sum_of (cost_of first) (cost_of rest)) ≡ key_of (cost_of first) + key_of (cost_of rest) = omega arith in e)

-- a path of few moves has a key below the greatest
pub key_few : (moves : List Move) → length moves < MAX_PASSABLE → key_of (cost_of moves) < NEVER
key_few moves few = (let m = moves_of_cost moves in omega arith)

few_of_key : (moves : List Move) → key_of (cost_of moves) < NEVER → (cost_of moves).diagonal < 33461
few_of_key moves less = few_diagonals (cost_of moves) (omega arith)

module _ (version : Versioned) (live : Living) (seek : Seek) (start goal : Cell) (about : IsAbout version live seek start goal) where
  baked_path : (from : Cell) (moves : List Move) (to : Cell) → Leads (now version live) from moves to → Leads version.map from moves to
  baked_path from moves to path =
      leads_of_part version.map (now version live) (part version.map (now version live) (bits_make_live version.map live.bits)) from moves to path

  -- a place has one cell
  pub one_cell : (a b : Cell) (place : ℕ) → IsHomeOf version a seek.goal.label place → IsHomeOf version b seek.goal.label place → a ≡ b
  one_cell a b place p q = sym p.there.there ∙ q.there.there

  -- and a cell one place
  pub one_place : (a : Cell) (p q : ℕ) → IsHomeOf version a seek.goal.label p → IsHomeOf version a seek.goal.label q → p ≡ q
  one_place a p q h k =
      at_one_place (comp_at version.comps seek.goal.label).cells (whole_comp version about.image.of seek.goal.label h.within).once a p q h.there k.there

  -- a cell that reaches the goal stands in its component
  in_component : (cell : Cell) → Reaches version.map cell goal → Contains (comp_at version.comps seek.goal.label).cells cell
  in_component cell reach =
      let home = home_of_passable version about.image.of cell (leads_from version.map cell goal reach.0 reach.1) in
      elim (cases_eq home.0 seek.goal.label) [
        | inl same ↦
            let there = subst (λ l. IsHomeOf version cell l home.1) same home.2 in
            contains_at (comp_at version.comps seek.goal.label).cells cell home.1 there.there
        | inr other ↦ absurd (apart version about.image.of cell goal home.0 seek.goal.label home.1 seek.goal.place home.2 about.to other reach)
      ]

  -- a best path of the live map has a small key
  pub best_is_small : (from : Cell) (moves : List Move) → IsBest (now version live) from moves goal → key_of (cost_of moves) < NEVER
  best_is_small from moves best =
      let few = fewer_moves (now version live) goal from moves (comp_at version.comps seek.goal.label).cells best
      (λ cell others its less. in_component cell (others, baked_path cell others goal its.leads)) in
      let most = (whole_comp version about.image.of seek.goal.label about.to.within).few in
      key_few moves (omega arith)

  -- a walk of the version has a small key
  pub walk_is_small : (from : Cell) (moves : List Move) → IsWalk version.map version.comps from goal moves → key_of (cost_of moves) < NEVER
  walk_is_small from moves walk = key_few moves (few_moves version.map version.order version.comps about.image.of.database from goal moves walk)

  -- what is told of a cell is at most the key of each path of the live map
  told_is_bound : (cell : Cell) (told : ℕ) (moves : List Move) → IsTold version live goal cell told → Leads (now version live) cell moves goal
      → key_of (cost_of moves) < NEVER → told / 2 ≤ key_of (cost_of moves)
  told_is_bound cell told moves is path small =
      let walk = walk_is_small cell is.moves is.walk in
      let less = key_if_at_most (cost_of is.moves) (cost_of moves) (few_of_key is.moves walk) (few_of_key moves small)
      (is.walk.best.least moves (baked_path cell moves goal path)) in
      let key = is.key in omega arith

  module _ (state : List ℕ) (sound : IsSound version live seek start goal state) (least : ℕ) (first_in : seek.first < seek.size)
      (closed : (place : ℕ) → place < seek.size → IsOpenBelow seek state least place → ⊥) where
    -- where the place is open
    opened : (cell : Cell) (place spent : ℕ) (moves : List Move) → place < seek.size → mark_in state place ≢ 0 → at state seek place ≡ cell
        → cost_in state seek.size place ≤ spent → Leads (now version live) cell moves goal → spent + key_of (cost_of moves) < NEVER
        → ((mark_in state place ≢ 2) ⊎ (place ≡ seek.goal.place)) → least ≤ spent + key_of (cost_of moves)
    opened cell place spent moves within known there cheap path small is_open =
        let told = subst (λ c. IsTold version live goal c (told_in state seek.size place)) there (sound.told place within known) in
        let bound = told_is_bound cell (told_in state seek.size place) moves told path (omega arith) in
        elim (cases_lt (cost_in state seek.size place + told_in state seek.size place / 2) least) [
          | inl below ↦ absurd (closed place within (record { known = known; reached = omega arith; is_open = is_open; below = below }))
          | inr above ↦ omega arith
        ]

    -- a path from a place that was reached so cheaply costs no less in all
    along : (cell : Cell) (place spent : ℕ) (moves : List Move) → place < seek.size → mark_in state place ≢ 0 → at state seek place ≡ cell
        → cost_in state seek.size place ≤ spent → Leads (now version live) cell moves goal → spent + key_of (cost_of moves) < NEVER
        → least ≤ spent + key_of (cost_of moves)
    along cell place spent [] within known there cheap path small =
        let home = subst (λ c. IsHomeOf version c seek.goal.label place) (there ∙ path.1) (sound.cells place within known) in
        opened cell place spent [] within known there cheap path small (inr (one_place goal place seek.goal.place home about.to))
    along cell place spent (move ∷ moves) within known there cheap path small =
        elim (cases_eq (mark_in state place) 2) [
          | inr is_open ↦ opened cell place spent (move ∷ moves) within known there cheap path small (inl is_open)
          | inl shut ↦
              let legal = subst (λ c. IsLegal (now version live) c move path.0) (sym there) path.1 in
              let next = sound.closed place within shut move path.0 legal in
              let key = key_cons move moves in
              let c = next.cheap in
              let rest = along path.0 next.place (spent + step_key (is_diagonal move)) moves next.within next.known next.there (omega arith) path.2 (omega arith) in
              omega arith
        ]

    -- so does each best path
    pub none_cheaper : IsBegun seek state → (moves : List Move) → IsBest (now version live) start moves goal → least ≤ key_of (cost_of moves)
    none_cheaper begun moves best =
        let there = one_cell (at state seek seek.first) start seek.first (sound.cells seek.first first_in begun.known) about.from in
        let nothing = begun.nothing in
        let small = best_is_small start moves best in
        let rest = along start seek.first 0 moves first_in begun.known there (omega arith) best.leads (omega arith) in
        omega arith

  -- a path that costs no more than each best one is a best one
  pub best_by_key : (moves : List Move) (most : ℕ) → Leads (now version live) start moves goal → key_of (cost_of moves) ≤ most
      → ((others : List Move) → IsBest (now version live) start others goal → most ≤ key_of (cost_of others))
      → IsBest (now version live) start moves goal
  best_by_key moves most path cheap least =
      let best = best_path_exists (now version live) start goal (moves, path) in
      let small = best_is_small start best.0 best.1 in
      let bound = least best.0 best.1 in
      let less = at_most_if_key (cost_of moves) (cost_of best.0) (few_of_key moves (omega arith)) (few_of_key best.0 small) (omega arith) in
      record {
        leads = path;
        least = λ others other. at_most_trans (cost_of moves) (cost_of best.0) (cost_of others) less (best.1.least others other);
      }

  -- where a key above that of all paths is the least, there is no path
  pub none_reaches : (most : ℕ) → NEVER ≤ most
      → ((others : List Move) → IsBest (now version live) start others goal → most ≤ key_of (cost_of others))
      → Reaches (now version live) start goal → ⊥
  none_reaches most large least reach =
      let best = best_path_exists (now version live) start goal reach in
      let small = best_is_small start best.0 best.1 in
      let bound = least best.0 best.1 in
      absurd (omega arith)
