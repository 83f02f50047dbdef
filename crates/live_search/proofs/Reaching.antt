-- Steps that are looked at, one after another, and the place that is closed then.
use Rattle.std.proofs.Common.{◌≡◌, ◌≢◌, ℕ, ◌+◌, ◌*◌, ◌/◌, ◌%◌, ◌^◌, ◌<◌, ◌≤◌, Bool, true, false, List, slice_index, refl, sym, ap, subst, ◌∙◌, inl, inr, arith}
use Rattle.std.proofs.lemmas.Bool.{cases_lt, false≢true}
use Rattle.root_cost.specs.Keys.{step_key}
use Rattle.moves.specs.declared.Cell.{Cell}
use Rattle.moves.specs.declared.Move.{Move}
use Rattle.moves.specs.Maps.{IsPassable}
use Rattle.moves.specs.Moves.{IsLegal, IsTarget, is_diagonal, number_of}
use Rattle.moves.proofs.MoveLaws.{number_below, same_move, same_target}
use Rattle.versions.specs.Databases.{Versioned}
use Rattle.path_image.specs.Answers.{IsBlockedIn, IsHomeIn, IsHomeOf}
use Rattle.path_image.specs.declared.reading.Home.{Home}
use Rattle.path_image.specs.Reading.{cell_of_word}
use Rattle.path_image.specs.Walks.{IsNoCellBehind}
use Rattle.path_image.proofs.Homes.{inside_image, one_home}
use Rattle.live_maps.specs.Told.{Living}
use Rattle.live_maps.proofs.Along.{clear_passable}
use Rattle.live_search.specs.declared.TheConstants.{NEVER}
use Rattle.live_search.specs.declared.expanding.Leg.{Leg}
use Rattle.live_search.specs.declared.expanding.Look.{Look}
use Rattle.live_search.specs.declared.seeking.Seek.{Seek}
use Rattle.live_search.specs.Sound.{AreRelaxed, IsAbout, IsBehind, IsReachedFor, IsSound, at, now}
use Rattle.live_search.specs.State.{Closes, Lowers, cost_in, from_in, mark_in}
use Rattle.live_search.specs.Steps.{Expands, IsLookedAt, LooksAlong, HasCorners, HasNoBit, IsLegFor, IsPlaceBehind, IsRound, Notes, NotesStep, Reaches}
use Rattle.live_search.proofs.Bounding.{one_cell}
use Rattle.live_search.proofs.Growing.{grows_close, grows_itself, grows_lower, grows_more, reached_grows}
use Rattle.live_search.proofs.Keeping.{sound_close, sound_lower}
use Rattle.live_search.proofs.Rounds.{legal_is_seen, seen_is_legal}

-- ---- the place that a move leads to

-- there is none where the number is above each
module _ (live : Living) (seek : Seek) (cell : Cell) (by : Move) (nowhere : ℕ) (above : seek.size ≤ nowhere) where
  pub nowhere_outside : IsNoCellBehind live.words cell by → IsPlaceBehind live seek cell by nowhere
  nowhere_outside none = record {
    some = λ less. absurd (omega arith);
    none = λ more version start goal about to there target home clear.
        none to target (inside_image live.words version about.image to home.passable.inside);
  }

  pub nowhere_blocked : (to : Cell) → IsTarget cell by to → IsBlockedIn live.words to → IsPlaceBehind live seek cell by nowhere
  nowhere_blocked to target blocked = record {
    some = λ less. absurd (omega arith);
    none = λ more version start goal about other there aim home clear.
        blocked version about.image (subst (IsPassable version.map) (same_target cell by other to aim target) home.passable);
  }

  pub nowhere_apart : (to : Cell) (found : Home) → IsTarget cell by to → IsHomeIn live.words to found → (found.label ≡ seek.goal.label → ⊥)
      → IsPlaceBehind live seek cell by nowhere
  nowhere_apart to found target its other = record {
    some = λ less. absurd (omega arith);
    none = λ more version start goal about cell_there there aim home clear.
        other (one_home version about.image.of to found.label seek.goal.label found.place there (its version about.image)
        (subst (λ c. IsHomeOf version c seek.goal.label there) (same_target cell by cell_there to aim target) home));
  }

  pub nowhere_marked : (to : Cell) → IsTarget cell by to → (HasNoBit live to → ⊥) → IsPlaceBehind live seek cell by nowhere
  nowhere_marked to target marked = record {
    some = λ less. absurd (omega arith);
    none = λ more version start goal about other there aim home clear. marked (subst (HasNoBit live) (same_target cell by other to aim target) clear);
  }

pub place_there : (live : Living) (seek : Seek) (cell : Cell) (by : Move) (to : Cell) (found : Home) → IsTarget cell by to → IsHomeIn live.words to found
    → found.label ≡ seek.goal.label → HasNoBit live to → found.place < seek.size → IsPlaceBehind live seek cell by found.place
place_there live seek cell by to found target its same clear within = record {
  some = λ less version start goal about. (to, target, subst (λ l. IsHomeOf version to l found.place) same (its version about.image), clear);
  none = λ more. absurd (omega arith);
}

-- ---- a step is looked at

module _ (live : Living) (seek : Seek) (old mid : List ℕ) (leg : Leg) (inside : seek.goal.place < seek.size) (place_in : leg.place < seek.size)
    (to_in : leg.to < seek.size) where
  -- the place that it leads to was known
  pub noted_before : (mark_in old leg.to ≡ 0 → ⊥) → NotesStep live seek old old leg true
  noted_before known = record { over = λ version start goal about sound is_leg. (refl, record { sound = sound; grows = grows_itself seek.size old }, known) }

  pub noted_nowhere : IsNoCellBehind live.words leg.cell leg.by → NotesStep live seek old old leg false
  noted_nowhere none = record {
    over = λ version start goal about sound is_leg.
        absurd (none is_leg.next is_leg.legal.target (inside_image live.words version about.image is_leg.next is_leg.home.passable.inside));
  }

  pub noted_now : (to : Cell) (done : Bool) → IsTarget leg.cell leg.by to → Notes live seek old mid to leg.to done → NotesStep live seek old mid leg done
  noted_now to done target notes = record {
    over = λ version start goal about sound is_leg.
        notes.over version start goal about sound
        (subst (λ c. IsHomeOf version c seek.goal.label leg.to) (same_target leg.cell leg.by is_leg.next to is_leg.legal.target target) is_leg.home);
  }

  pub reach_fails : NotesStep live seek old mid leg false → Reaches live seek old mid leg false
  reach_fails notes = record {
    over = λ version start goal about sound is_leg. (let n = notes.over version start goal about sound is_leg in absurd (false≢true n.0));
  }

  -- nothing cheaper is found
  pub reach_dear : NotesStep live seek old mid leg true → (cost : ℕ) → (leg.cost < NEVER → cost ≡ leg.cost + step_key (is_diagonal leg.by))
      → cost_in mid seek.size leg.to ≤ cost → Reaches live seek old mid leg true
  reach_dear notes cost is dear = record {
    over = λ version start goal about sound is_leg.
        (let n = notes.over version start goal about sound is_leg in
        let c = is is_leg.most in (
          refl,
          n.1,
          record {
            place = leg.to;
            within = to_in;
            known = n.2;
            there = one_cell version live seek start goal about (at mid seek leg.to) is_leg.next leg.to (n.1.sound.cells leg.to to_in n.2) is_leg.home;
            cheap = omega arith;
          },
        ));
  }

  -- a cheaper path is found
  pub reach_cheap : (new : List ℕ) → NotesStep live seek old mid leg true → (cost from : ℕ) → (leg.cost < NEVER → cost ≡ leg.cost + step_key (is_diagonal leg.by))
      → from ≡ leg.place * 8 + number_of leg.by → cost < cost_in mid seek.size leg.to → Lowers seek.size mid new leg.to cost from
      → Reaches live seek old new leg true
  reach_cheap new notes cost from is word less lowers = record {
    over = λ version start goal about sound is_leg.
        (let n = notes.over version start goal about sound is_leg in
        let c = is is_leg.most in
        let below = number_below leg.by in
        let grows = grows_lower seek.size mid new leg.to cost from to_in (omega arith) lowers in
        let first = n.1.grows leg.place place_in is_leg.known in
        let after = grows leg.place place_in first.known in
        let there : at new seek leg.to ≡ is_leg.next =
        ap cell_of_word lowers.cell
        ∙ one_cell version live seek start goal about (at mid seek leg.to) is_leg.next leg.to (n.1.sound.cells leg.to to_in n.2) is_leg.home in
        let from_is : from_in new seek.size leg.to ≡ leg.place * 8 + number_of leg.by = lowers.from_now ∙ word in
        let before : from_in new seek.size leg.to / 8 ≡ leg.place = omega arith in
        let here : at new seek (from_in new seek.size leg.to / 8) ≡ leg.cell =
        ap (λ p. at new seek p) before ∙ ap cell_of_word (after.cell ∙ first.cell) ∙ is_leg.from in
        let behind : IsBehind version live seek new leg.to =
        record {
          move = leg.by;
          number = omega arith;
          within = omega arith;
          known = λ e. after.known (ap (mark_in new) (sym before) ∙ e);
          legal = subst (λ c. IsLegal (now version live) c leg.by (at new seek leg.to)) (sym here) (subst (IsLegal (now version live) leg.cell leg.by) (sym there) is_leg.legal);
          dearer =
              (let e : cost_in new seek.size (from_in new seek.size leg.to / 8) ≡ cost_in new seek.size leg.place = ap (cost_in new seek.size) before in
              let a = after.cost in let b = first.cost in let d = is_leg.cheap in let k = lowers.cost_now in omega arith);
        } in
        let sound_now = sound_lower version live seek start goal mid new n.1.sound inside leg.to cost from to_in n.2 (omega arith) lowers (inr behind) in (
          refl,
          record { sound = sound_now; grows = grows_more seek.size old mid new n.1.grows grows },
          record {
            place = leg.to;
            within = to_in;
            known = (grows leg.to to_in n.2).known;
            there = there;
            cheap = (let k = lowers.cost_now in omega arith);
          },
        ));
  }

-- the key of a step more does not wrap
pub step_fits : (cost : ℕ) (d : Bool) → cost < NEVER → (cost + step_key d) % 2 ^ 32 ≡ cost + step_key d
step_fits cost true less = omega arith
step_fits cost false less = omega arith

-- a place that was reached has no bit
pub reached_clear : (live : Living) (seek : Seek) (old : List ℕ) (place : ℕ) (cell : Cell) → place < seek.size → cell ≡ at old seek place
    → (version : Versioned) (start goal : Cell) → IsAbout version live seek start goal → IsSound version live seek start goal old
    → mark_in old place ≢ 0 → cost_in old seek.size place < NEVER → HasNoBit live cell
reached_clear live seek old place cell within is version start goal about sound known few = elim (sound.reached place within known few) [
  | inl first ↦
      let home = subst (λ q. IsHomeOf version start seek.goal.label q) (sym first) about.from in
      let same = one_cell version live seek start goal about start (at old seek place) place home (sound.cells place within known) in
      subst (HasNoBit live) (same ∙ sym is) about.leaves
  | inr behind ↦ subst (HasNoBit live) (sym is) (clear_passable live version about.image (at old seek place) behind.legal.enters.passable)
]

-- ---- all steps of a place

pub looked_none : (live : Living) (seek : Seek) (old : List ℕ) (place : ℕ) (cell : Cell) (cost : ℕ) → IsLookedAt live seek old old place cell cost 0
looked_none live seek old place cell cost = record {
  over = λ version start goal about sound known few. (record { sound = sound; grows = grows_itself seek.size old }, λ move to less. absurd (omega arith));
}

module _ (live : Living) (seek : Seek) (old state new : List ℕ) (place : ℕ) (cell : Cell) (cost number : ℕ) (near : List ℕ)
    (p : IsLookedAt live seek old state place cell cost number) (within : place < seek.size) (is_cell : cell ≡ at old seek place)
    (is_cost : cost ≡ cost_in old seek.size place) (round : IsRound live seek cell near) where
  -- where the place stands and how cheap it is, at the moment
  about_place : (version : Versioned) (start goal : Cell) → IsAbout version live seek start goal → IsSound version live seek start goal old
      → mark_in old place ≢ 0 → IsHomeOf version cell seek.goal.label place
  about_place version start goal about sound known = subst (λ c. IsHomeOf version c seek.goal.label place) (sym is_cell) (sound.cells place within known)

  -- a place that was reached has no bit
  -- (the start has none, and no legal move of the live map leads to a cell with one)
  pub looked_past : (clear : (version : Versioned) (start goal : Cell) → IsAbout version live seek start goal → IsSound version live seek start goal old
      → mark_in old place ≢ 0 → cost_in old seek.size place < NEVER → HasNoBit live cell)
      → ((slice_index near number < seek.size) × HasCorners near seek.size number → ⊥) → IsLookedAt live seek old state place cell cost (number + 1)
  looked_past clear shut = record {
    over = λ version start goal about sound known few.
        (let so = p.over version start goal about sound known few in (
          so.0,
          λ move to less legal. elim (cases_lt (number_of move) number) [
            | inl before ↦ so.1 move to before legal
            | inr upto ↦
                let same : number_of move ≡ number = omega arith in
                let seen = legal_is_seen version live seek start goal about cell place (about_place version start goal about sound known)
                (clear version start goal about sound known few) near round move to legal in
                absurd (shut (subst (λ n. (slice_index near n < seek.size) × HasCorners near seek.size n) same seen))
          ],
        ));
  }

  pub looked_more : (clear : (version : Versioned) (start goal : Cell) → IsAbout version live seek start goal → IsSound version live seek start goal old
      → mark_in old place ≢ 0 → cost_in old seek.size place < NEVER → HasNoBit live cell)
      → (by : Move) → number_of by ≡ number → slice_index near number < seek.size → HasCorners near seek.size number
      → (done : Bool) → Reaches live seek state new (record { place = place; cell = cell; cost = cost; by = by; to = slice_index near number }) done
      → ((version : Versioned) (start goal : Cell) → IsAbout version live seek start goal → IsSound version live seek start goal old
      → mark_in old place ≢ 0 → cost_in old seek.size place < NEVER → done ≡ true)
      × (done ≡ true → IsLookedAt live seek old new place cell cost (number + 1))
  looked_more clear by numbered there corners done reaches =
      let leg_of : (version : Versioned) (start goal : Cell) → (about : IsAbout version live seek start goal) → (sound : IsSound version live seek start goal old)
      → (known : mark_in old place ≢ 0) → (few : cost_in old seek.size place < NEVER)
      → IsLegFor version live seek state (record { place = place; cell = cell; cost = cost; by = by; to = slice_index near number }) =
      λ version start goal about sound known few.
      (let so = p.over version start goal about sound known few in
      let grown = so.0.grows place within known in
      let seen = seen_is_legal version live seek start goal about cell place (about_place version start goal about sound known)
      (clear version start goal about sound known few) near round by (subst (λ n. slice_index near n < seek.size) (sym numbered) there)
      (subst (HasCorners near seek.size) (sym numbered) corners) in
      record {
        known = grown.known;
        from = ap cell_of_word grown.cell ∙ sym is_cell;
        cheap = (let c = grown.cost in omega arith);
        most = omega arith;
        next = seen.0;
        legal = seen.1;
        home = subst (λ n. IsHomeOf version seen.0 seek.goal.label (slice_index near n)) numbered seen.2;
      }) in (
        λ version start goal about sound known few.
            (let so = p.over version start goal about sound known few in
            (reaches.over version start goal about so.0.sound (leg_of version start goal about sound known few)).0),
        λ is_done. record {
          over = λ version start goal about sound known few.
              (let so = p.over version start goal about sound known few in
              let is_leg = leg_of version start goal about sound known few in
              let turn = reaches.over version start goal about so.0.sound is_leg in (
                record { sound = turn.1.sound; grows = grows_more seek.size old state new so.0.grows turn.1.grows },
                λ move to less legal. elim (cases_lt (number_of move) number) [
                  | inl before ↦ reached_grows seek state new to (cost + step_key (is_diagonal move)) turn.1.grows (so.1 move to before legal)
                  | inr upto ↦
                      let same : move ≡ by = same_move move by (let n = numbered in omega arith) in
                      let where_to : is_leg.next ≡ to = same_target cell by is_leg.next to is_leg.legal.target (subst (λ m. IsTarget cell m to) same legal.target) in
                      subst (λ m. IsReachedFor seek new to (cost + step_key (is_diagonal m))) (sym same)
                      (subst (λ c. IsReachedFor seek new c (cost + step_key (is_diagonal by))) where_to turn.2)
                ],
              ));
        },
      )

module _ (live : Living) (seek : Seek) (old state : List ℕ) (place : ℕ) (cell : Cell) (cost : ℕ) (p : IsLookedAt live seek old state place cell cost 8)
    (within : place < seek.size) (inside : seek.goal.place < seek.size) (is_cell : cell ≡ at old seek place) where
  -- the place is closed
  pub expands_closed : (new : List ℕ) → Closes seek.size state new place → cost_in state seek.size place ≡ cost → Expands live seek old new place true
  expands_closed new closes same = record {
    over = λ version start goal about sound known few.
        (let so = p.over version start goal about sound known few in
        let grown = so.0.grows place within known in
        let relaxed : AreRelaxed version live seek state (at state seek place) (cost_in state seek.size place) =
        λ move to legal.
        subst (λ c. IsReachedFor seek state to (c + step_key (is_diagonal move))) (sym same)
        (so.1 move to (number_below move) (subst (λ c. IsLegal (now version live) c move to) (ap cell_of_word grown.cell ∙ sym is_cell) legal)) in (
          refl,
          record {
            sound = sound_close version live seek start goal state new so.0.sound inside place within grown.known closes relaxed;
            grows = grows_more seek.size old state new so.0.grows (grows_close seek.size state new place closes);
          },
        ));
  }

  -- or a cheaper path to it was found meanwhile
  pub expands_again : Expands live seek old state place true
  expands_again = record { over = λ version start goal about sound known few. (refl, (p.over version start goal about sound known few).0) }

-- ---- one move, as the code looks at it

module _ (live : Living) (seek : Seek) (near : List ℕ) (look : Look) where
  pub looks_past : (state : List ℕ) → ((slice_index near look.number < seek.size) × HasCorners near seek.size look.number → ⊥)
      → LooksAlong live seek state state near look true
  looks_past state shut = record {
    over = λ first looked within is_cell is_cost round. (
      λ version start goal about sound known few. refl,
      λ done. looked_past live seek first state state look.place look.cell look.cost look.number near looked within is_cell is_cost round
          (reached_clear live seek first look.place look.cell within is_cell) shut,
    );
  }

  pub looks_more : (state new : List ℕ) (by : Move) (done : Bool) → number_of by ≡ look.number → slice_index near look.number < seek.size
      → HasCorners near seek.size look.number
      → Reaches live seek state new (record { place = look.place; cell = look.cell; cost = look.cost; by = by; to = slice_index near look.number }) done
      → LooksAlong live seek state new near look done
  looks_more state new by done numbered there corners reaches = record {
    over = λ first looked within is_cell is_cost round.
        looked_more live seek first state new look.place look.cell look.cost look.number near looked within is_cell is_cost round
        (reached_clear live seek first look.place look.cell within is_cell) by numbered there corners done reaches;
  }
