-- The way back from a place that was reached to the start, and the moves that are put.
use Rattle.std.proofs.Common.{◌≡◌, ◌≢◌, ℕ, zero, suc, ◌+◌, ◌*◌, ◌/◌, ◌%◌, ◌<◌, ◌≤◌, Bool, true, false, List, [], ◌∷◌, ◌++◌, length, map, set, Some, None, refl, sym, ap, subst, ◌∙◌, append_assoc, append-nil, inl, inr, arith}
use Rattle.std.proofs.lemmas.List.{length-append, length_push}
use Rattle.root_cost.specs.Keys.{key_of, step_key}
use Rattle.moves.specs.declared.Cell.{Cell}
use Rattle.moves.specs.declared.Move.{Move}
use Rattle.moves.specs.Moves.{is_diagonal, number_of}
use Rattle.moves.specs.Paths.{Leads, cost_of}
use Rattle.moves.proofs.LawsOfPaths.{one_more}
use Rattle.moves.proofs.MoveLaws.{same_move}
use Rattle.versions.specs.Databases.{Versioned}
use Rattle.path_image.specs.declared.walking.Walk.{Walk}
use Rattle.path_image.specs.declared.walking.Step.TheVariants.{Arrived, Go, Lost}
use Rattle.path_image.specs.Answers.{IsHomeOf, overwritten}
use Rattle.path_image.specs.Strides.{Walking}
use Rattle.path_image.specs.Walks.{Advances, IsAhead}
use Rattle.path_image.proofs.Following.{ArePut, IsLeft, are_put_more}
use Rattle.live_maps.specs.Told.{Living}
use Rattle.live_maps.proofs.Along.{passable_clear}
use Rattle.live_search.specs.declared.TheConstants.{NEVER}
use Rattle.live_search.specs.declared.seeking.Seek.{Seek}
use Rattle.live_search.specs.Ends.{IsChainLength, LeadsBy, PutsChain, PutsRest}
use Rattle.live_search.specs.Sound.{IsAbout, IsBehind, IsSound, at, now}
use Rattle.live_search.specs.State.{cost_in, from_in, mark_in}
use Rattle.live_search.proofs.Bounding.{key_append, key_cons, one_cell}

-- a step costs something
step_some : (d : Bool) → 33461 ≤ step_key d
step_some true = omega arith
step_some false = omega arith

-- ---- how many steps lead to a place

-- so many steps lead from `here` to the place
pub record IsOnTheWayBack (seek : Seek) (state : List ℕ) (place here turns : ℕ) : Type 0 where
  pub within : here < seek.size
  pub over : (version : Versioned) (live : Living) (start goal : Cell) → IsAbout version live seek start goal → IsSound version live seek start goal state
      → mark_in state place ≢ 0 → cost_in state seek.size place < NEVER
      → (mark_in state here ≢ 0) × (cost_in state seek.size here + 33461 * turns ≤ cost_in state seek.size place)
      × ((count : ℕ) (moves : List Move) → LeadsBy seek state count here moves → (all : List Move) × LeadsBy seek state (count + turns) place all)

pub way_none : (seek : Seek) (state : List ℕ) (place : ℕ) → place < seek.size → IsOnTheWayBack seek state place place 0
way_none seek state place within = record {
  within = within;
  over = λ version live start goal about sound known few. (
    known,
    omega arith,
    λ count moves leads. (moves, (let e : count ≡ count + 0 = omega arith in subst (λ n. LeadsBy seek state n place moves) e leads)),
  );
}

module _ (seek : Seek) (state : List ℕ) (place here turns : ℕ) (p : IsOnTheWayBack seek state place here turns) where
  behind_of : here ≢ seek.first → (version : Versioned) (live : Living) (start goal : Cell) → IsAbout version live seek start goal
      → IsSound version live seek start goal state → mark_in state place ≢ 0 → cost_in state seek.size place < NEVER → IsBehind version live seek state here
  behind_of apart version live start goal about sound known few =
      let so = p.over version live start goal about sound known few in
      elim (sound.reached here p.within so.0 (let c = so.1 in omega arith)) [
        | inl first ↦ absurd (apart first)
        | inr behind ↦ behind
      ]

  pub way_more : here ≢ seek.first → from_in state seek.size here / 8 < seek.size → IsOnTheWayBack seek state place (from_in state seek.size here / 8) (turns + 1)
  way_more apart within = record {
    within = within;
    over = λ version live start goal about sound known few.
        (let so = p.over version live start goal about sound known few in
        let behind = behind_of apart version live start goal about sound known few in
        let some = step_some (is_diagonal behind.move) in
        let dearer = behind.dearer in
        let c = so.1 in (
          behind.known,
          omega arith,
          λ count moves leads.
              (let longer = so.2 (suc count) (moves ++ behind.move ∷ []) (apart, within, behind.move, moves, behind.number, refl, leads) in
              (longer.0, (let e : suc count + turns ≡ count + (turns + 1) = omega arith in subst (λ n. LeadsBy seek state n place longer.0) e longer.1))),
        ));
  }

  pub way_all : here ≡ seek.first → IsChainLength seek state place (Some turns)
  way_all first version live start goal about sound known few =
      let so = p.over version live start goal about sound known few in
      let whole = so.2 0 [] (first, refl) in
      (turns, refl, whole.0, (let e : 0 + turns ≡ turns = omega arith in subst (λ n. LeadsBy seek state n place whole.0) e whole.1))

  -- no word leads out, and no way is so long
  pub way_never_out : here ≢ seek.first → seek.size ≤ from_in state seek.size here / 8 → IsChainLength seek state place None
  way_never_out apart out version live start goal about sound known few =
      let behind = behind_of apart version live start goal about sound known few in
      absurd (let w = behind.within in omega arith)

  pub way_never_long : 47321 ≤ turns → IsChainLength seek state place None
  way_never_long many version live start goal about sound known few =
      let so = p.over version live start goal about sound known few in
      absurd (let c = so.1 in omega arith)

-- ---- moves that lead to a place are a path

pub leads_long : (seek : Seek) (state : List ℕ) (count place : ℕ) (moves : List Move) → LeadsBy seek state count place moves → length moves ≡ count
leads_long seek state zero place moves leads = ap length leads.1
leads_long seek state (suc count) place moves leads =
    let rest = leads_long seek state count (from_in state seek.size place / 8) leads.3 leads.6 in
    let push = length_push leads.3 leads.2 in
    let all = ap length leads.5 in
    omega arith

module _ (version : Versioned) (live : Living) (seek : Seek) (start goal : Cell) (about : IsAbout version live seek start goal) (state : List ℕ)
    (sound : IsSound version live seek start goal state) where
  pub chain_path : (count place : ℕ) (moves : List Move) → LeadsBy seek state count place moves → place < seek.size → mark_in state place ≢ 0
      → cost_in state seek.size place < NEVER
      → Leads (now version live) start moves (at state seek place) × (key_of (cost_of moves) ≤ cost_in state seek.size place)
  chain_path zero place moves leads within known few =
      let home = subst (λ q. IsHomeOf version start seek.goal.label q) (sym leads.0) about.from in
      let same = one_cell version live seek start goal about start (at state seek place) place home (sound.cells place within known) in
      let free = passable_clear live version about.image start about.from.passable about.leaves in
      subst (λ ms. Leads (now version live) start ms (at state seek place) × (key_of (cost_of ms) ≤ cost_in state seek.size place)) (sym leads.1)
      ((free, same), omega arith)
  chain_path (suc count) place moves leads within known few =
      elim (sound.reached place within known few) [
        | inl first ↦ absurd (leads.0 first)
        | inr behind ↦
            let before = from_in state seek.size place / 8 in
            let same : behind.move ≡ leads.2 = same_move behind.move leads.2 (behind.number ∙ sym leads.4) in
            let some = step_some (is_diagonal behind.move) in
            let dearer = behind.dearer in
            let rest = chain_path count before leads.3 leads.6 leads.1 behind.known (omega arith) in
            let path = one_more (now version live) start (at state seek before) (at state seek place) leads.3 behind.move rest.0 behind.legal in
            let key = key_append leads.3 (behind.move ∷ []) in
            let last = key_cons behind.move [] in
            let cheap = rest.1 in
            let all : moves ≡ leads.3 ++ behind.move ∷ [] = leads.5 ∙ ap (λ m. leads.3 ++ m ∷ []) (sym same) in
            subst (λ ms. Leads (now version live) start ms (at state seek place) × (key_of (cost_of ms) ≤ cost_in state seek.size place)) (sym all)
            (path, omega arith)
      ]

-- ---- the moves of a way are put from the last one back

-- these numbers stand in a room from a place on, as far as it reaches
abbrev pub written_at : ℕ → List ℕ → List ℕ → List ℕ
written_at zero room numbers = overwritten room numbers
written_at (suc place) [] numbers = []
written_at (suc place) (x ∷ room) numbers = x ∷ written_at place room numbers

overwritten_nothing : (room : List ℕ) → overwritten room [] ≡ room
overwritten_nothing [] = refl
overwritten_nothing (x ∷ room) = refl

written_none : (place : ℕ) (room : List ℕ) → written_at place room [] ≡ room
written_none zero room = overwritten_nothing room
written_none (suc place) [] = refl
written_none (suc place) (x ∷ room) = ap (λ xs. x ∷ xs) (written_none place room)

written_before : (place : ℕ) (room numbers : List ℕ) (number : ℕ) → set (written_at (suc place) room numbers) place number ≡ written_at place room (number ∷ numbers)
written_before zero [] numbers number = refl
written_before zero (x ∷ room) numbers number = refl
written_before (suc place) [] numbers number = refl
written_before (suc place) (x ∷ room) numbers number = ap (λ xs. x ∷ xs) (written_before place room numbers number)

-- so many of the moves are left to be put
pub record IsPutBack (seek : Seek) (state : List ℕ) (place count : ℕ) (old room : List ℕ) (here left : ℕ) : Type 0 where
  pub within : here < seek.size
  pub over : (moves : List Move) → LeadsBy seek state count place moves
      → (front : List Move) × (back : List Move) × (moves ≡ front ++ back) × LeadsBy seek state left here front
      × (room ≡ written_at left old (map number_of back))

pub put_back_none : (seek : Seek) (state : List ℕ) (place count : ℕ) (room : List ℕ) → place < seek.size → IsPutBack seek state place count room room place count
put_back_none seek state place count room within = record {
  within = within;
  over = λ moves leads. (moves, [], sym (append-nil moves), leads, sym (written_none count room));
}

module _ (seek : Seek) (state : List ℕ) (place count : ℕ) (old room : List ℕ) (here left : ℕ) (p : IsPutBack seek state place count old room here left) where
  pub put_back_more : (less : ℕ) (new : List ℕ) → left ≡ suc less → new ≡ set room less (from_in state seek.size here % 8)
      → from_in state seek.size here / 8 < seek.size → IsPutBack seek state place count old new (from_in state seek.size here / 8) less
  put_back_more less new one put within = record {
    within = within;
    over = λ moves leads.
        (let so = p.over moves leads in
        let way = subst (λ n. LeadsBy seek state n here so.0) one so.3 in
        let here_room : room ≡ written_at (suc less) old (map number_of so.1) = so.4 ∙ ap (λ n. written_at n old (map number_of so.1)) one in (
          way.3,
          way.2 ∷ so.1,
          so.2 ∙ ap (λ ms. ms ++ so.1) way.5 ∙ append_assoc way.3 (way.2 ∷ []) so.1,
          way.6,
          put ∙ ap (λ r. set r less (from_in state seek.size here % 8)) here_room
              ∙ ap (set (written_at (suc less) old (map number_of so.1)) less) (sym way.4)
              ∙ written_before less old (map number_of so.1) (number_of way.2),
        ));
  }

  -- a word that leads out is none of theirs
  pub put_back_out : (less : ℕ) (new : List ℕ) → left ≡ suc less → seek.size ≤ from_in state seek.size here / 8 → PutsChain seek state place count old new
  put_back_out less new one out moves leads =
      let so = p.over moves leads in
      let way = subst (λ n. LeadsBy seek state n here so.0) one so.3 in
      absurd (let w = way.1 in omega arith)

  pub put_back_all : left ≡ 0 → PutsChain seek state place count old room
  put_back_all none moves leads =
      let so = p.over moves leads in
      let way = subst (λ n. LeadsBy seek state n here so.0) none so.3 in
      let same : so.1 ≡ moves = ap (λ ms. ms ++ so.1) (sym way.1) ∙ sym so.2 in
      so.4 ∙ ap (λ n. written_at n old (map number_of so.1)) none ∙ ap (λ ms. overwritten old (map number_of ms)) same

-- ---- the moves that are told are put behind them

pub record IsPutOn (start : Walking) (before : ℕ) (old : List ℕ) (walk : Walking) (room : List ℕ) (count turns : ℕ) : Type 0 where
  pub done : List Move
  pub long : length done ≡ turns
  pub sum : count ≡ before + turns
  pub over : walk.words ≡ start.words
  pub left : (version : Versioned) (moves : List Move) → IsAhead start.words version start.walk moves → IsLeft start.words version walk.walk done moves
  pub put : (empty : List ℕ) (first : List Move) → before ≡ length first → old ≡ overwritten empty (map number_of first) → ArePut empty room count (first ++ done)

pub put_on_none : (start : Walking) (before : ℕ) (room : List ℕ) → IsPutOn start before room start room before 0
put_on_none start before room = record {
  done = [];
  long = refl;
  sum = omega arith;
  over = refl;
  left = λ version moves ahead. record { rest = moves; whole = refl; ahead = ahead };
  put = λ empty first long is. record {
    long = long ∙ ap length (sym (append-nil first));
    room = is ∙ ap (λ ms. overwritten empty (map number_of ms)) (sym (append-nil first));
  };
}

module _ (start : Walking) (before : ℕ) (old : List ℕ) (walk : Walking) (room : List ℕ) (count turns : ℕ) (p : IsPutOn start before old walk room count turns) where
  pub put_on_more : (next : Walking) (by : Move) (new : List ℕ) → next.words ≡ walk.words → Advances walk.words walk.walk next.walk (Go by)
      → new ≡ set room count (number_of by) → IsPutOn start before old next new (count + 1) (turns + 1)
  put_on_more next by new over step put = record {
    done = p.done ++ by ∷ [];
    long = (let l = p.long in let push = length_push p.done by in omega arith);
    sum = (let s = p.sum in omega arith);
    over = over ∙ p.over;
    left = λ version moves ahead.
        (let left = p.left version moves ahead in
        let taken = subst (λ w. Advances w walk.walk next.walk (Go by)) p.over step version left.rest left.ahead in
        record {
          rest = taken.0;
          whole = left.whole ∙ ap (λ ms. p.done ++ ms) taken.1 ∙ sym (append_assoc p.done (by ∷ []) taken.0);
          ahead = taken.2;
        });
    put = λ empty first long is.
        subst (ArePut empty new (count + 1)) (append_assoc first p.done (by ∷ []))
        (are_put_more empty room new count (first ++ p.done) by (p.put empty first long is) put);
  }

  pub put_on_all : (size : ℕ) (next : Walk) → Advances walk.words walk.walk next Arrived → PutsRest start size before old room (Some count)
  put_on_all size next step version empty done moves ahead few long is =
      let left = p.left version moves ahead in
      let none = subst (λ w. Advances w walk.walk next Arrived) p.over step version left.rest left.ahead in
      let all : moves ≡ p.done = left.whole ∙ ap (λ ms. p.done ++ ms) none ∙ append-nil p.done in
      let put = p.put empty done long is in
      let length_all = ap length all in
      let l = p.long in
      let s = p.sum in (
        (let e : count ≡ before + length moves = omega arith in ap Some e),
        put.room ∙ ap (λ ms. overwritten empty (map number_of (done ++ ms))) (sym all),
      )

  pub put_on_lost : (size : ℕ) (next : Walk) → Advances walk.words walk.walk next Lost → PutsRest start size before old room None
  put_on_lost size next step version empty done moves ahead few long is =
      let left = p.left version moves ahead in
      absurd (subst (λ w. Advances w walk.walk next Lost) p.over step version left.rest left.ahead)

  pub put_on_long : (size : ℕ) → size ≤ turns → PutsRest start size before old room None
  put_on_long size many version empty done moves ahead few long is =
      let left = p.left version moves ahead in
      let whole = ap length left.whole ∙ length-append p.done left.rest in
      let l = p.long in
      absurd (omega arith)
