-- A search stays sound: where a place becomes known, where a cheaper path to one is kept, and where one is closed.
use Rattle.std.proofs.Common.{◌≡◌, ◌≢◌, ◌⊎◌, ℕ, ◌+◌, ◌/◌, ◌%◌, ◌<◌, ◌≤◌, List, sym, ap, subst, ◌∙◌, inl, inr, arith}
use Rattle.std.proofs.lemmas.Bool.{cases_eq, cases_lt}
use Rattle.root_cost.specs.Keys.{step_key}
use Rattle.moves.specs.declared.Cell.{Cell}
use Rattle.moves.specs.Moves.{IsLegal, is_diagonal}
use Rattle.versions.specs.Databases.{Versioned}
use Rattle.path_image.specs.Answers.{IsHomeOf}
use Rattle.path_image.specs.Reading.{cell_of_word}
use Rattle.live_maps.specs.Told.{Living}
use Rattle.live_search.specs.declared.TheConstants.{NEVER}
use Rattle.live_search.specs.declared.seeking.Seek.{Seek}
use Rattle.live_search.specs.Sound.{AreRelaxed, IsBehind, IsSound, IsTold, at, now}
use Rattle.live_search.specs.State.{Closes, Grows, IsListed, IsSameAt, IsSameList, IsSameState, Knows, Lists, Lowers, cell_in, cost_in, from_in, known_in, listed_in, mark_in, told_in}
use Rattle.live_search.proofs.Growing.{grows_close, grows_known, grows_lower, grows_more, grows_same, reached_grows}

-- what holds of a place that is known
pub record IsSoundAt (version : Versioned) (live : Living) (seek : Seek) (goal : Cell) (state : List ℕ) (place : ℕ) : Type 0 where
  pub cells : IsHomeOf version (at state seek place) seek.goal.label place
  pub told : IsTold version live goal (at state seek place) (told_in state seek.size place)
  pub costs : cost_in state seek.size place ≤ NEVER
  pub reached : cost_in state seek.size place < NEVER → (place ≡ seek.first) ⊎ IsBehind version live seek state place
  pub closed : mark_in state place ≡ 2 → AreRelaxed version live seek state (at state seek place) (cost_in state seek.size place)

pub sound_by : (version : Versioned) (live : Living) (seek : Seek) (start goal : Cell) (state : List ℕ)
    → ((place : ℕ) → place < seek.size → mark_in state place ≢ 0 → IsSoundAt version live seek goal state place)
    → mark_in state seek.goal.place ≢ 0 → IsListed seek.size state → IsSound version live seek start goal state
sound_by version live seek start goal state each known listed = record {
  cells = λ q w m. (each q w m).cells;
  told = λ q w m. (each q w m).told;
  costs = λ q w m. (each q w m).costs;
  reached = λ q w m. (each q w m).reached;
  closed = λ q w m. (each q w (λ e. (let x = m in omega arith))).closed m;
  goal_known = known;
  listed = listed;
}

module _ (version : Versioned) (live : Living) (seek : Seek) (start goal : Cell) (old new : List ℕ) (sound : IsSound version live seek start goal old)
    (grows : Grows seek.size old new) where
  -- a place behind another one that fell in cost stays behind it
  behind_kept : (place : ℕ) → from_in new seek.size place ≡ from_in old seek.size place → cell_in new seek.size place ≡ cell_in old seek.size place
      → cost_in new seek.size place ≡ cost_in old seek.size place → IsBehind version live seek old place → IsBehind version live seek new place
  behind_kept place before cell cost p =
      let g = grows (from_in old seek.size place / 8) p.within p.known in
      record {
        move = p.move;
        number = p.number ∙ ap (λ f. f % 8) (sym before);
        within = subst (λ f. f / 8 < seek.size) (sym before) p.within;
        known = λ e. g.known (ap (λ f. mark_in new (f / 8)) (sym before) ∙ e);
        legal =
            subst (λ c. IsLegal (now version live) c p.move (at new seek place))
            (ap cell_of_word (sym g.cell) ∙ ap (λ f. at new seek (f / 8)) (sym before))
            (subst (IsLegal (now version live) (at old seek (from_in old seek.size place / 8)) p.move) (ap cell_of_word (sym cell)) p.legal);
        dearer =
            (let e : cost_in new seek.size (from_in new seek.size place / 8) ≡ cost_in new seek.size (from_in old seek.size place / 8) =
            ap (λ f. cost_in new seek.size (f / 8)) before in
            let d = p.dearer in let f = g.cost in omega arith);
      }

  relaxed_kept : (from : Cell) (cost : ℕ) → AreRelaxed version live seek old from cost → AreRelaxed version live seek new from cost
  relaxed_kept from cost relaxed move to legal = reached_grows seek old new to (cost + step_key (is_diagonal move)) grows (relaxed move to legal)

  reached_kept : (place : ℕ) → place < seek.size → mark_in old place ≢ 0 → from_in new seek.size place ≡ from_in old seek.size place
      → cell_in new seek.size place ≡ cell_in old seek.size place → cost_in new seek.size place ≡ cost_in old seek.size place
      → cost_in new seek.size place < NEVER → (place ≡ seek.first) ⊎ IsBehind version live seek new place
  reached_kept place within known from cell cost less = elim (sound.reached place within known (omega arith)) [
    | inl first ↦ inl first
    | inr behind ↦ inr (behind_kept place from cell cost behind)
  ]

  cells_kept : (place : ℕ) → place < seek.size → mark_in old place ≢ 0 → cell_in new seek.size place ≡ cell_in old seek.size place
      → IsHomeOf version (at new seek place) seek.goal.label place
  cells_kept place within known cell =
      subst (λ c. IsHomeOf version c seek.goal.label place) (ap cell_of_word (sym cell)) (sound.cells place within known)

  told_kept : (place : ℕ) → place < seek.size → mark_in old place ≢ 0 → cell_in new seek.size place ≡ cell_in old seek.size place
      → told_in new seek.size place ≡ told_in old seek.size place → IsTold version live goal (at new seek place) (told_in new seek.size place)
  told_kept place within known cell told =
      subst (λ c. IsTold version live goal c (told_in new seek.size place)) (ap cell_of_word (sym cell))
      (subst (IsTold version live goal (at old seek place)) (sym told) (sound.told place within known))

  -- a place of which the same is said keeps what holds of it
  pub same_at : (place : ℕ) → place < seek.size → IsSameAt seek.size old new place → mark_in new place ≢ 0 → IsSoundAt version live seek goal new place
  same_at place within same marked =
      let known : mark_in old place ≢ 0 = λ e. marked (same.mark ∙ e) in
      record {
        cells = cells_kept place within known same.cell;
        told = told_kept place within known same.cell same.told;
        costs = (let c = sound.costs place within known in let d = same.cost in omega arith);
        reached = reached_kept place within known same.from same.cell same.cost;
        closed = λ closed.
            (let relaxed = relaxed_kept (at old seek place) (cost_in old seek.size place) (sound.closed place within (sym same.mark ∙ closed)) in
            subst (λ c. AreRelaxed version live seek new c (cost_in new seek.size place)) (ap cell_of_word (sym same.cell))
            (subst (AreRelaxed version live seek new (at old seek place)) (sym same.cost) relaxed));
      }

  -- so the search stays sound if it is so at one place
  pub sound_but : (place : ℕ) → ((other : ℕ) → other < seek.size → other ≢ place → IsSameAt seek.size old new other)
      → IsSoundAt version live seek goal new place → seek.goal.place < seek.size → IsListed seek.size new → IsSound version live seek start goal new
  sound_but place others here inside listed =
      sound_by version live seek start goal new
      (λ q w m. elim (cases_eq q place) [
        | inl same ↦ subst (IsSoundAt version live seek goal new) (sym same) here
        | inr apart ↦ same_at q w (others q w apart) m
      ])
      (grows seek.goal.place inside sound.goal_known).known listed

  pub sound_same : IsSameState seek.size old new → seek.goal.place < seek.size → IsListed seek.size new → IsSound version live seek start goal new
  sound_same same inside listed =
      sound_by version live seek start goal new (λ q w m. same_at q w (same q w) m) (grows seek.goal.place inside sound.goal_known).known listed

-- where the list is the same, and each place that is known was so
listed_same : (n : ℕ) (old new : List ℕ) → IsListed n old → IsSameList n old new
    → ((place : ℕ) → place < n → mark_in new place ≢ 0 → mark_in old place ≢ 0) → IsListed n new
listed_same n old new listed same known place within marked = elim (listed place within (known place within marked)) [
  | inl full ↦ inl (let c = same.count in omega arith)
  | inr there ↦
      elim (cases_lt (known_in old n) n) [
        | inl few ↦ inr (there.0, (let c = same.count in let l = there.1 in omega arith), same.each there.0 (let l = there.1 in omega arith) ∙ there.2)
        | inr full ↦ inl (let c = same.count in omega arith)
      ]
]

module _ (version : Versioned) (live : Living) (seek : Seek) (start goal : Cell) (old new : List ℕ) (sound : IsSound version live seek start goal old)
    (inside : seek.goal.place < seek.size) where
  -- nothing is said anew of a place
  pub sound_kept : IsSameState seek.size old new → IsSameList seek.size old new → IsSound version live seek start goal new
  sound_kept same list =
      sound_same version live seek start goal old new sound (grows_same seek.size old new same) same inside
      (listed_same seek.size old new sound.listed list (λ q w m e. m ((same q w).mark ∙ e)))

  -- a cheaper path to a place is kept
  pub sound_lower : (place cost from : ℕ) → place < seek.size → mark_in old place ≢ 0 → cost ≤ cost_in old seek.size place
      → Lowers seek.size old new place cost from → ((place ≡ seek.first) ⊎ IsBehind version live seek new place)
      → IsSound version live seek start goal new
  sound_lower place cost from within known less lowers behind =
      let grows = grows_lower seek.size old new place cost from within less lowers in
      sound_but version live seek start goal old new sound grows place lowers.others
      (record {
        cells = cells_kept version live seek start goal old new sound grows place within known lowers.cell;
        told = told_kept version live seek start goal old new sound grows place within known lowers.cell lowers.told;
        costs = (let c = sound.costs place within known in let d = lowers.cost_now in omega arith);
        reached = λ few. behind;
        closed = λ closed. absurd (let m = lowers.mark in omega arith);
      })
      inside
      (listed_same seek.size old new sound.listed lowers.listed
      (λ q w m. elim (cases_eq q place) [
        | inl same ↦ subst (λ x. mark_in old x ≢ 0) (sym same) known
        | inr apart ↦ (λ e. m ((lowers.others q w apart).mark ∙ e))
      ]))

  -- a place is closed whose moves were all looked at
  pub sound_close : (place : ℕ) → place < seek.size → mark_in old place ≢ 0 → Closes seek.size old new place
      → AreRelaxed version live seek old (at old seek place) (cost_in old seek.size place) → IsSound version live seek start goal new
  sound_close place within known closes relaxed =
      let grows = grows_close seek.size old new place closes in
      sound_but version live seek start goal old new sound grows place closes.others
      (record {
        cells = cells_kept version live seek start goal old new sound grows place within known closes.cell;
        told = told_kept version live seek start goal old new sound grows place within known closes.cell closes.told;
        costs = (let c = sound.costs place within known in let d = closes.cost in omega arith);
        reached = reached_kept version live seek start goal old new sound grows place within known closes.from closes.cell closes.cost;
        closed = λ closed.
            (let kept = relaxed_kept version live seek start goal old new sound grows (at old seek place) (cost_in old seek.size place) relaxed in
            subst (λ c. AreRelaxed version live seek new c (cost_in new seek.size place)) (ap cell_of_word (sym closes.cell))
            (subst (AreRelaxed version live seek new (at old seek place)) (sym closes.cost) kept));
      })
      inside
      (listed_same seek.size old new sound.listed closes.listed
      (λ q w m. elim (cases_eq q place) [
        | inl same ↦ subst (λ x. mark_in old x ≢ 0) (sym same) known
        | inr apart ↦ (λ e. m ((closes.others q w apart).mark ∙ e))
      ]))

-- a place is listed, and becomes known then
module _ (version : Versioned) (live : Living) (seek : Seek) (start goal : Cell) (old mid new : List ℕ) (sound : IsSound version live seek start goal old)
    (inside : seek.goal.place < seek.size) (place told cell : ℕ) (within : place < seek.size) (none : mark_in old place ≡ 0)
    (lists : Lists seek.size old mid place) (knows : Knows seek.size mid new place told cell) where
  -- what was listed still is
  still_listed : (q : ℕ) → ((seek.size ≤ known_in old seek.size) ⊎ ((index : ℕ) × (index < known_in old seek.size) × (listed_in old seek.size index ≡ q)))
      → (seek.size ≤ known_in mid seek.size) ⊎ ((index : ℕ) × (index < known_in mid seek.size) × (listed_in mid seek.size index ≡ q))
  still_listed q before = elim before [
    | inl full ↦ inl (let c = lists.full full in omega arith)
    | inr there ↦
        elim (cases_lt (known_in old seek.size) seek.size) [
          | inl few ↦ inr (
            there.0,
            (let c = lists.count few in let l = there.1 in omega arith),
            lists.before there.0 (let l = there.1 in omega arith) there.1 ∙ there.2,
          )
          | inr full ↦ inl (let c = lists.full full in omega arith)
        ]
  ]

  now_listed : (seek.size ≤ known_in mid seek.size) ⊎ ((index : ℕ) × (index < known_in mid seek.size) × (listed_in mid seek.size index ≡ place))
  now_listed = elim (cases_lt (known_in old seek.size) seek.size) [
    | inl few ↦ inr (known_in old seek.size, (let c = lists.count few in omega arith), lists.last few)
    | inr full ↦ inl (let c = lists.full full in omega arith)
  ]

  list_grows : Grows seek.size old mid
  list_grows = grows_same seek.size old mid lists.same

  sound_mid : IsSound version live seek start goal mid
  sound_mid =
      sound_same version live seek start goal old mid sound list_grows lists.same inside
      (λ q w m. still_listed q (sound.listed q w (λ e. m ((lists.same q w).mark ∙ e))))

  know_grows : Grows seek.size mid new
  know_grows = grows_known seek.size mid new place told cell ((lists.same place within).mark ∙ none) knows

  pub known_grows : Grows seek.size old new
  known_grows = grows_more seek.size old mid new list_grows know_grows

  listed_new : (q : ℕ) → ((seek.size ≤ known_in mid seek.size) ⊎ ((index : ℕ) × (index < known_in mid seek.size) × (listed_in mid seek.size index ≡ q)))
      → (seek.size ≤ known_in new seek.size) ⊎ ((index : ℕ) × (index < known_in new seek.size) × (listed_in new seek.size index ≡ q))
  listed_new q before = elim before [
    | inl full ↦ inl (let c = knows.listed.count in omega arith)
    | inr there ↦
        elim (cases_lt (known_in mid seek.size) seek.size) [
          | inl few ↦ inr (
            there.0,
            (let c = knows.listed.count in let l = there.1 in omega arith),
            knows.listed.each there.0 (let l = there.1 in omega arith) ∙ there.2,
          )
          | inr full ↦ inl (let c = knows.listed.count in omega arith)
        ]
  ]

  pub sound_know : IsHomeOf version (cell_of_word cell) seek.goal.label place → IsTold version live goal (cell_of_word cell) told
      → IsSound version live seek start goal new
  sound_know home is_told =
      sound_but version live seek start goal mid new sound_mid know_grows place knows.others
      (record {
        cells = subst (λ c. IsHomeOf version c seek.goal.label place) (ap cell_of_word (sym knows.cell_now)) home;
        told =
            subst (λ c. IsTold version live goal c (told_in new seek.size place)) (ap cell_of_word (sym knows.cell_now))
            (subst (IsTold version live goal (cell_of_word cell)) (sym knows.told_now) is_told);
        costs = (let c = knows.cost in omega arith);
        reached = λ few. absurd (let c = knows.cost in omega arith);
        closed = λ closed. absurd (let c = knows.mark in omega arith);
      })
      inside
      (λ q w m. elim (cases_eq q place) [
        | inl same ↦ listed_new q (subst (λ x. (seek.size ≤ known_in mid seek.size) ⊎ ((index : ℕ) × (index < known_in mid seek.size) × (listed_in mid seek.size index ≡ x))) (sym same) now_listed)
        | inr apart ↦ listed_new q (sound_mid.listed q w (λ e. m ((knows.others q w apart).mark ∙ e)))
      ])

  pub known_now : mark_in new place ≢ 0
  known_now e = (let m = knows.mark in omega arith)
