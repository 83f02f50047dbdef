-- What is told from a place, by the steps of the walk from there.
use Rattle.std.proofs.Common.{◌≡◌, ℕ, zero, suc, ◌+◌, ◌*◌, ◌/◌, ◌%◌, ◌^◌, ◌<◌, ◌==◌, List, [], ◌∷◌, refl, sym, ap, subst, ◌∙◌, arith}
use Rattle.std.specs.List.{Contains}
use Rattle.root_cost.specs.Keys.{key_of, step_key}
use Rattle.moves.specs.declared.Cell.{Cell}
use Rattle.moves.specs.declared.Move.{Move}
use Rattle.moves.specs.declared.Move.TheVariants.{N, NE, E, SE, S, SW, W, NW}
use Rattle.moves.specs.Moves.{IsTarget, is_diagonal, number_of}
use Rattle.moves.specs.Paths.{Leads, cost_of}
use Rattle.moves.specs.FirstSetLists.{cell_of}
use Rattle.moves.proofs.MoveLaws.{same_target}
use Rattle.run_pack.specs.declared.Run.{Run}
use Rattle.versions.specs.Databases.{Versioned, comp_at}
use Rattle.versions.specs.Spelled.{Spells}
use Rattle.versions.specs.Answers.{IsSpelled, IsWalk}
use Rattle.versions.proofs.BestWalks.{best_walk}
use Rattle.path_image.specs.declared.walking.Walk.{Walk}
use Rattle.path_image.specs.Answers.{IsHomeOf}
use Rattle.path_image.specs.Reading.{cell_of_word}
use Rattle.path_image.specs.Walks.{IsAhead}
use Rattle.path_image.proofs.Homes.{contains_at}
use Rattle.live_maps.specs.Told.{Living}
use Rattle.live_maps.proofs.Along.{clear_passable}
use Rattle.live_search.specs.declared.TheConstants.{NEVER}
use Rattle.live_search.specs.declared.seeking.Seek.{Seek}
use Rattle.live_search.specs.Sound.{IsAbout, IsTold, now}
use Rattle.live_search.specs.State.{link_cell_in, link_in}
use Rattle.live_search.specs.Steps.{IsChain, IsLink, told_before}
use Rattle.live_search.proofs.Bounding.{key_cons, walk_is_small}

-- ---- walks and their rests

-- what is spelled begins at one of the cells
spells_in : (cells : List Cell) (rows : List (List Run)) (from : Cell) (moves : List Move) (goal : Cell) → Contains cells goal
    → Spells cells rows from moves goal → Contains cells from
spells_in cells rows from [] goal ends same = subst (Contains cells) (sym same) ends
spells_in cells rows from (move ∷ moves) goal ends spelled = contains_at cells from spelled.1.source spelled.1.leaves

module _ (version : Versioned) (live : Living) (seek : Seek) (start goal : Cell) (about : IsAbout version live seek start goal) where
  -- what is spelled to the goal, and leads there, is the walk
  pub walk_of_spelled : (from : Cell) (moves : List Move) → IsSpelled version.comps from goal moves → Leads version.map from moves goal
      → IsWalk version.map version.comps from goal moves
  walk_of_spelled from moves spelled path =
      let walk = best_walk version.map version.order version.comps about.image.of.database from goal (moves, path) in
      subst (IsWalk version.map version.comps from goal) (sym (walk.1.only moves spelled)) walk.1

  -- the rest of a walk is the walk from where its first move leads
  pub rest_of_walk : (from : Cell) (move : Move) (rest : List Move) (next : Cell) → IsWalk version.map version.comps from goal (move ∷ rest)
      → IsTarget from move next → IsWalk version.map version.comps next goal rest
  rest_of_walk from move rest next walk target =
      let its = walk.spelled in
      let way = same_target from move its.spelled.2 next its.spelled.3 target in
      let spelled = subst (λ c. Spells (comp_at version.comps its.label).cells (comp_at version.comps its.label).rows c rest goal) way its.spelled.4 in
      let path = walk.best.leads in
      let there = same_target from move path.0 next path.1.target target in
      walk_of_spelled next rest (record {
        label = its.label;
        within = its.within;
        leaves = spells_in (comp_at version.comps its.label).cells (comp_at version.comps its.label).rows next rest goal its.arrives spelled;
        arrives = its.arrives;
        spelled = spelled;
      })
      (subst (λ c. Leads version.map c rest goal) there path.2)

  -- what is ahead of a walk to the goal is the walk from where it stands
  pub ahead_is_walk : (walk : Walk) (moves : List Move) → IsAhead live.words version walk moves → walk.home.label ≡ seek.goal.label
      → walk.goal ≡ seek.goal.place → IsWalk version.map version.comps walk.at goal moves
  ahead_is_walk walk moves ahead label place =
      let comp = comp_at version.comps walk.home.label in
      let there : cell_of comp.cells walk.goal ≡ goal =
      ap (λ l. cell_of (comp_at version.comps l).cells walk.goal) label ∙ ap (cell_of (comp_at version.comps seek.goal.label).cells) place ∙ about.to.there.there in
      let spelled = subst (Spells comp.cells comp.rows walk.at moves) there ahead.spelled in
      let ends = subst (Contains comp.cells) there (contains_at comp.cells (cell_of comp.cells walk.goal) walk.goal (record { within = ahead.goal; there = refl })) in
      walk_of_spelled walk.at moves (record {
        label = walk.home.label;
        within = ahead.within;
        leaves = spells_in comp.cells comp.rows walk.at moves goal ends spelled;
        arrives = ends;
        spelled = spelled;
      })
      (subst (Leads version.map walk.at moves) there ahead.leads)

  -- and where none is ahead it stands at the goal
  pub ahead_none : (walk : Walk) → IsAhead live.words version walk [] → walk.home.label ≡ seek.goal.label → walk.goal ≡ seek.goal.place → walk.at ≡ goal
  ahead_none walk ahead label place =
      ahead.leads.1 ∙ ap (λ l. cell_of (comp_at version.comps l).cells walk.goal) label
      ∙ ap (cell_of (comp_at version.comps seek.goal.label).cells) place ∙ about.to.there.there

  pub ahead_home : (walk : Walk) (moves : List Move) → IsAhead live.words version walk moves → walk.home.label ≡ seek.goal.label
      → IsHomeOf version walk.at seek.goal.label walk.home.place
  ahead_home walk [] ahead label =
      subst (λ l. IsHomeOf version walk.at l walk.home.place) label (record { passable = ahead.leads.0; within = ahead.within; there = ahead.here })
  ahead_home walk (move ∷ moves) ahead label =
      subst (λ l. IsHomeOf version walk.at l walk.home.place) label (record { passable = ahead.leads.1.leaves; within = ahead.within; there = ahead.here })

-- ---- words of what is told

both_of : (t l : ℕ) → t < 2 → l < 2 → (t * l < 2) × (t * l ≡ 1 → (t ≡ 1) × (l ≡ 1))
both_of zero l a b = (omega arith, λ e. absurd (omega arith))
both_of (suc zero) l a b = (omega arith, λ e. (omega arith, omega arith))
both_of (suc (suc t)) l a b = absurd (omega arith)

packed : (b p : ℕ) → b < NEVER → p < 2 → (((b % 2 ^ 32 * 2 % 2 ^ 32 + p) % 2 ^ 32) / 2 ≡ b) × (((b % 2 ^ 32 * 2 % 2 ^ 32 + p) % 2 ^ 32) % 2 ≡ p)
packed b p small less = (omega arith, omega arith)

-- the number of a move tells whether it is diagonal
diagonal_by_number : (move : Move) (x : ℕ) → number_of move ≡ x % 8 → is_diagonal move ≡ (x % 2 == 1)
diagonal_by_number N x e = let p : x % 2 ≡ 0 = omega arith in rw p refl
diagonal_by_number NE x e = let p : x % 2 ≡ 1 = omega arith in rw p refl
diagonal_by_number E x e = let p : x % 2 ≡ 0 = omega arith in rw p refl
diagonal_by_number SE x e = let p : x % 2 ≡ 1 = omega arith in rw p refl
diagonal_by_number S x e = let p : x % 2 ≡ 0 = omega arith in rw p refl
diagonal_by_number SW x e = let p : x % 2 ≡ 1 = omega arith in rw p refl
diagonal_by_number W x e = let p : x % 2 ≡ 0 = omega arith in rw p refl
diagonal_by_number NW x e = let p : x % 2 ≡ 1 = omega arith in rw p refl

module _ (version : Versioned) (live : Living) (seek : Seek) (start goal : Cell) (about : IsAbout version live seek start goal) where
  -- what is told from where a step begins
  pub told_step : (link word told : ℕ) (next : Cell) → IsLink version live seek goal link word next → IsTold version live goal next told
      → IsTold version live goal (cell_of_word word) (told_before told link)
  told_step link word told next step is =
      let rest = rest_of_walk version live seek start goal about (cell_of_word word) step.move step.rest next step.walk step.target in
      let same : step.rest ≡ is.moves = is.walk.only step.rest rest.spelled in
      let small = walk_is_small version live seek start goal about (cell_of_word word) (step.move ∷ step.rest) step.walk in
      let diagonal = diagonal_by_number step.move (link / 2) step.number in
      let key : told / 2 + step_key (link / 2 % 2 == 1) ≡ key_of (cost_of (step.move ∷ step.rest)) =
      (let c = key_cons step.move step.rest in
      let d : step_key (link / 2 % 2 == 1) ≡ step_key (is_diagonal step.move) = ap step_key (sym diagonal) in
      let k : told / 2 ≡ key_of (cost_of step.rest) = is.key ∙ ap (λ ms. key_of (cost_of ms)) (sym same) in
      omega arith) in
      let both = both_of (told % 2) (link % 2) (omega arith) (omega arith) in
      let words = packed (told / 2 + step_key (link / 2 % 2 == 1)) (told % 2 * (link % 2)) (omega arith) both.0 in
      record {
        moves = step.move ∷ step.rest;
        walk = step.walk;
        key = words.0 ∙ key;
        free = λ odd clear.
            (let two = both.1 (sym words.1 ∙ odd) in
            let legal = step.free two.1 clear in
            let onward = is.free two.0 (clear_passable live version about.image next legal.enters.passable) in
            (next, legal, subst (λ ms. Leads (now version live) next ms goal) (sym same) onward));
      }

  -- steps that are the same lead to the same cell
  pub chain_same : (old new : List ℕ) (first : Cell) (count : ℕ) (next : Cell)
      → ((index : ℕ) → index < count → (link_in new seek.size index ≡ link_in old seek.size index) × (link_cell_in new seek.size index ≡ link_cell_in old seek.size index))
      → IsChain version live seek goal old first count next → IsChain version live seek goal new first count next
  chain_same old new first zero next same chain = chain
  chain_same old new first (suc count) next same chain =
      let here = same count (omega arith) in (
        subst (λ l. IsLink version live seek goal l (link_cell_in new seek.size count) next) (sym here.0)
            (subst (λ w. IsLink version live seek goal (link_in old seek.size count) w next) (sym here.1) chain.0),
        subst (λ w. IsChain version live seek goal new first count (cell_of_word w)) (sym here.1)
            (chain_same old new first count (cell_of_word (link_cell_in old seek.size count)) (λ i less. same i (omega arith)) chain.1),
      )
