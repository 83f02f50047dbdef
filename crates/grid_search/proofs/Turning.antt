-- The turns of a search: its start, one turn, its end, with the list of settled cells as the first part of a slice.
use Rattle.std.proofs.Common.{◌≡◌, ℕ, ◌+◌, ◌*◌, ◌<◌, ◌≤◌, List, [], ◌∷◌, ◌++◌, length, get_or, take, set, refl, sym, ap, ◌∙◌, subst, inl, inr, arith, Contains, get_or-set_same, get_or-set_other}
use Rattle.std.proofs.lemmas.List.{take_more_set, length-take-le, length-set, get_or_default}
use Rattle.std.proofs.lemmas.List.Elements.{All-nil, All-push, All-contains}
use Rattle.std.proofs.lemmas.List.Quantifiers.{all_pairs_push}
use Rattle.root_cost.specs.Costs.{no_cost}
use Rattle.moves.specs.declared.Cell.{Cell}
use Rattle.moves.specs.Maps.{Map, IsInside, IsPassable, place_of, passable_count, IsSearchable}
use Rattle.moves.proofs.TableLaws.{same_or_apart}
use Rattle.grid_search.specs.declared.queue.Waiting.{Waiting}
use Rattle.grid_search.specs.Keys.{key_at, HasNoKeys}
use Rattle.grid_search.specs.Settling.{IsReached, IsProgress, IsRelaxed, IsNext, IsFinished, EveryMove}
use Rattle.grid_search.specs.Queues.{Pushes, IsFirst, IsLeft, push_to, rest_of, empty_with, IsQueue, AreQueues}
use Rattle.grid_search.specs.Queues.{Opened, started, IsFirstTaken, IsUsedUp, queues_of, HasSpace, AreOpened, AreReady, IsSettledLast, AreStepsTaken, taken_from}
use Rattle.moves.proofs.RowMajor.{place_inside, same_cell_from_place}
use Rattle.grid_search.proofs.Progress.{turn}
use Rattle.grid_search.proofs.Found.{room_left, key_few}
use Rattle.grid_search.proofs.Queueing.{swapped, dropped, next_cell, taken_queues, pushed_count, space_kept}
use Rattle.root_cost.specs.declared.TheConstants.{NO_KEY, STRAIGHT_KEY, DIAGONAL_KEY, GREATEST_KEY}

-- what holds at the beginning of each turn
pub record IsSearching (map : Map) (source : Cell) (order : List Cell) (count : ℕ) (front : Opened) : Type 0 where
  pub progress : IsProgress map source front.keys (take count order)
  pub limit : (b : Cell) → IsInside map b → key_at map.width front.keys b ≤ NO_KEY
  pub counted : count ≤ length order
  pub level : ℕ
  pub queues : AreOpened map (take count order) level front

no_element : {X : Type 0} (x : X) → Contains [] x → ⊥
no_element x (k, below, at) = omega arith

-- a queue with nothing in it
empty_queue : (map : Map) (keys : List ℕ) (settled : List Cell) (level step room : ℕ)
    → IsQueue map keys settled level step (record { room = room; pushed = []; taken = 0 })
empty_queue map keys settled level step room = record {
  counted = omega arith;
  passable = λ k d h. absurd (omega arith);
  found = λ k d h. absurd (omega arith);
  no_higher = λ k d h. absurd (omega arith);
  near = λ k d h. absurd (omega arith);
  rising = λ i j d h k. absurd (omega arith);
  once = λ i j d h k. absurd (omega arith);
  later = λ entry (k, from, below, at). absurd (omega arith);
  open_yet = λ entry (k, from, below, at). absurd (omega arith);
}

module _ (map : Map) (source : Cell) (passable : IsPassable map source) (keys : List ℕ) (unused : HasNoKeys keys)
    (fits : map.width * map.height ≤ length keys) (place : ℕ) (here : place ≡ place_of map.width source) where
  source_place : place < length keys
  source_place = let inside : place_of map.width source < map.width * map.height = place_inside map.width map.height source passable.inside.column passable.inside.row in omega arith

  pub key_of_source : key_at map.width (set keys place 0) source ≡ 0
  key_of_source = ap (λ p. get_or (set keys place 0) p NO_KEY) (sym here) ∙ get_or-set_same keys place 0 NO_KEY source_place

  pub none_elsewhere : (b : Cell) → b.x < map.width → (b ≡ source → ⊥) → key_at map.width (set keys place 0) b ≡ NO_KEY
  none_elsewhere b column apart =
      get_or-set_other keys place (place_of map.width b) 0 NO_KEY (λ e. apart (same_cell_from_place map.width b source column passable.inside.column (e ∙ here)))
      ∙ unused (place_of map.width b)

  only_source : (b : Cell) → IsReached map (set keys place 0) b → b ≡ source
  only_source b reached = elim (same_or_apart b source) [
    | inl same ↦ same
    | inr apart ↦
        let none : key_at map.width (set keys place 0) b ≡ NO_KEY = none_elsewhere b reached.inside.column apart in
        let found : key_at map.width (set keys place 0) b < NO_KEY = reached.found in
        absurd (omega arith)
  ]

  pub progress_start : IsProgress map source (set keys place 0) []
  progress_start = record {
    start = key_of_source;
    relaxed = λ a b move was legal. absurd (no_element a was);
    attained = λ b reached apart. absurd (apart (only_source b reached));
    waits = λ a b was reached open_yet. absurd (no_element a was);
    costs = λ b reached. (no_cost, sym (ap (key_at map.width (set keys place 0)) (only_source b reached) ∙ key_of_source), omega arith);
    shorter = λ b was. absurd (no_element b was);
    reached = λ k d h. absurd (omega arith);
    once = λ i j d h k. absurd (omega arith);
    rising = λ i j d h k. absurd (omega arith);
    beyond = λ p h.
        let inside : place_of map.width source < map.width * map.height = place_inside map.width map.height source passable.inside.column passable.inside.row in
        get_or-set_other keys place p 0 NO_KEY (λ e. omega arith) ∙ unused p;
  }

  module _ (straight_room diagonal_room : ℕ) where
    abbrev first_entry : Waiting
    first_entry = record { key = 0; cell = source }

    abbrev first_queue : Pushes
    first_queue = push_to (empty_with straight_room) first_entry

    left_source : (entry : Waiting) → IsLeft first_queue entry → first_entry ≡ entry
    left_source entry (k, from, below, at) = let none : k ≡ 0 = omega arith in ap (λ i. get_or (first_entry ∷ []) i entry) (sym none) ∙ at

    start_queue : IsQueue map (set keys place 0) [] 0 STRAIGHT_KEY first_queue
    start_queue = record {
      counted = omega arith;
      passable = All-push (λ w. IsPassable map w.cell) [] first_entry (All-nil (λ (w : Waiting). IsPassable map w.cell)) passable;
      found = All-push (λ w. w.key < NO_KEY) [] first_entry (All-nil (λ (w : Waiting). w.key < NO_KEY)) (omega arith);
      no_higher = All-push (λ w. key_at map.width (set keys place 0) w.cell ≤ w.key) [] first_entry
          (All-nil (λ (w : Waiting). key_at map.width (set keys place 0) w.cell ≤ w.key)) (omega (arith, key_of_source));
      near = All-push (λ w. w.key ≤ 0 + STRAIGHT_KEY) [] first_entry (All-nil (λ (w : Waiting). w.key ≤ 0 + STRAIGHT_KEY)) (omega arith);
      rising = all_pairs_push (λ a b. a.key ≤ b.key) [] first_entry (λ i j d h k. absurd (omega arith)) (λ k d h. absurd (omega arith));
      once = all_pairs_push (λ a b. a.cell ≡ b.cell → ⊥) [] first_entry (λ i j d h k. absurd (omega arith)) (λ k d h. absurd (omega arith));
      later = λ entry left. omega arith;
      open_yet = λ entry left live was. no_element entry.cell was;
    }

    start_queues : AreQueues map (set keys place 0) [] 0 STRAIGHT_KEY first_queue DIAGONAL_KEY (empty_with diagonal_room)
    start_queues = record {
      first = start_queue;
      second = empty_queue map (set keys place 0) [] 0 DIAGONAL_KEY diagonal_room;
      apart = λ a b in_first in_second. absurd (no_element b in_second);
      waiting = λ cell reached.
          let same : cell ≡ source = only_source cell reached in
          let key : key_at map.width (set keys place 0) cell ≡ 0 = ap (key_at map.width (set keys place 0)) same ∙ key_of_source in
          let entry : first_entry ≡ record {
            key = key_at map.width
                (set keys place 0) cell;
            cell = cell;
          } = λ i. record { key = sym key i; cell = sym same i } in
          inr (inl (subst (IsLeft first_queue) entry (0, omega arith, omega arith, refl)));
      settled_low = λ cell was. absurd (no_element cell was);
      settled_inside = λ cell was. absurd (no_element cell was);
    }

    pub searching_start : (order : List Cell)
        → IsSearching map source order 0 (record { keys = set keys place 0; straight = first_queue; diagonal = empty_with diagonal_room })
    searching_start order = record {
      progress = progress_start;
      limit = λ b inside. elim (same_or_apart b source) [
        | inl same ↦ let e : key_at map.width (set keys place 0) b ≡ 0 = ap (key_at map.width (set keys place 0)) same ∙ key_of_source in omega arith
        | inr apart ↦ let e : key_at map.width (set keys place 0) b ≡ NO_KEY = none_elsewhere b inside.column apart in omega arith
      ];
      counted = omega arith;
      level = 0;
      queues = start_queues;
    }

-- a search that has just started
pub searching_begun : (map : Map) (source : Cell) (front : Opened) (place width : ℕ) (order : List Cell) → IsPassable map source → HasNoKeys front.keys
    → HasSpace map front → place ≡ place_of width source → width ≡ map.width → IsSearching map source order 0 (started front place source)
searching_begun map source front place width order passable unused space here w =
    searching_start map source passable front.keys unused space.fits place
    (here ∙ ap (λ n. place_of n source) w) front.straight.room front.diagonal.room order

-- What holds when an entry was taken: it is dropped where it does not hold its cell's key, else its cell is next.
pub record IsTurn (map : Map) (source : Cell) (order : List Cell) (count : ℕ) (entry : Waiting) (before after : Opened) : Type 0 where
  pub passable : IsPassable map entry.cell
  pub stale : (key_at map.width after.keys entry.cell ≡ entry.key → ⊥) → IsSearching map source order count after
  pub next : key_at map.width after.keys entry.cell ≡ entry.key → IsNext map after.keys (take count order) entry.cell
  pub progress : IsProgress map source after.keys (take count order)
  pub limit : (b : Cell) → IsInside map b → key_at map.width after.keys b ≤ NO_KEY
  pub counted : count ≤ length order
  pub queues : key_at map.width after.keys entry.cell ≡ entry.key → AreOpened map (take count order ++ entry.cell ∷ []) entry.key after
  pub rooms : (after.straight.room ≡ before.straight.room) × (after.diagonal.room ≡ before.diagonal.room)
  pub same_keys : after.keys ≡ before.keys
  pub more_taken : taken_from before < taken_from after
  pub taken_count : taken_from after ≤ 2 * passable_count map

module _ (map : Map) (source : Cell) (order : List Cell) (count : ℕ) (front : Opened) (r : IsSearching map source order count front) where
  s_count : length front.straight.pushed ≤ passable_count map
  s_count = pushed_count map front.keys (take count order) r.level STRAIGHT_KEY front.straight r.queues.first

  d_count : length front.diagonal.pushed ≤ passable_count map
  d_count = pushed_count map front.keys (take count order) r.level DIAGONAL_KEY front.diagonal r.queues.second

  after_straight : Opened
  after_straight = record front { straight = rest_of front.straight }

  after_diagonal : Opened
  after_diagonal = record front { diagonal = rest_of front.diagonal }

  turn_straight : (entry : Waiting) → IsFirst front.straight entry → ((next : Waiting) → IsFirst front.diagonal next → entry.key ≤ next.key)
      → IsTurn map source order count entry front after_straight
  unfolding after_straight
  turn_straight entry first low = record {
    passable = All-contains (λ w. IsPassable map w.cell) front.straight.pushed entry r.queues.first.passable (front.straight.taken, first.0, first.1);
    stale = λ not_live. record {
      progress = r.progress;
      limit = r.limit;
      counted = r.counted;
      level = r.level;
      queues = dropped map front.keys (take count order) r.level STRAIGHT_KEY DIAGONAL_KEY front.straight front.diagonal r.queues entry first low not_live;
    };
    next = λ live. next_cell map front.keys (take count order) r.level STRAIGHT_KEY DIAGONAL_KEY front.straight front.diagonal r.queues entry first low live;
    progress = r.progress;
    limit = r.limit;
    counted = r.counted;
    queues = λ live. taken_queues map front.keys
        (take count order) r.level STRAIGHT_KEY DIAGONAL_KEY front.straight front.diagonal r.queues entry first low live;
    rooms = (refl, refl);
    same_keys = refl;
    more_taken = omega arith;
    taken_count = omega (arith, s_count, d_count, first.0, r.queues.second.counted);
  }

  other_way : AreQueues map front.keys (take count order) r.level DIAGONAL_KEY front.diagonal STRAIGHT_KEY front.straight
  other_way = swapped map front.keys (take count order) r.level STRAIGHT_KEY DIAGONAL_KEY front.straight front.diagonal r.queues

  turn_diagonal : (entry : Waiting) → IsFirst front.diagonal entry → ((next : Waiting) → IsFirst front.straight next → entry.key ≤ next.key)
      → IsTurn map source order count entry front after_diagonal
  unfolding after_diagonal
  turn_diagonal entry first low = record {
    passable = All-contains (λ w. IsPassable map w.cell) front.diagonal.pushed entry r.queues.second.passable (front.diagonal.taken, first.0, first.1);
    stale = λ not_live. record {
      progress = r.progress;
      limit = r.limit;
      counted = r.counted;
      level = r.level;
      queues = swapped map front.keys (take count order) r.level DIAGONAL_KEY STRAIGHT_KEY (rest_of front.diagonal) front.straight
          (dropped map front.keys (take count order) r.level DIAGONAL_KEY STRAIGHT_KEY front.diagonal front.straight other_way entry first low not_live);
    };
    next = λ live. next_cell map front.keys (take count order) r.level DIAGONAL_KEY STRAIGHT_KEY front.diagonal front.straight other_way entry first low live;
    progress = r.progress;
    limit = r.limit;
    counted = r.counted;
    queues = λ live. swapped map front.keys (take count order ++ entry.cell ∷ []) entry.key DIAGONAL_KEY STRAIGHT_KEY (rest_of front.diagonal) front.straight
        (taken_queues map front.keys (take count order) r.level DIAGONAL_KEY STRAIGHT_KEY front.diagonal front.straight other_way entry first low live);
    rooms = (refl, refl);
    same_keys = refl;
    more_taken = omega arith;
    taken_count = omega (arith, s_count, d_count, first.0, r.queues.first.counted);
  }

  pub turn_of : (entry : Waiting) (after : Opened) → after.keys ≡ front.keys → IsFirstTaken entry (queues_of front) (queues_of after)
      → IsTurn map source order count entry front after
  unfolding after_straight after_diagonal
  turn_of entry after keys (inl (first, rest, same, low)) =
      let e : after_straight ≡ after = λ i. record { keys = sym keys i; straight = sym rest i; diagonal = sym same i } in
      subst (IsTurn map source order count entry front) e (turn_straight entry first low)
  turn_of entry after keys (inr (first, rest, same, low)) =
      let e : after_diagonal ≡ after = λ i. record { keys = sym keys i; straight = sym same i; diagonal = sym rest i } in
      subst (IsTurn map source order count entry front) e (turn_diagonal entry first low)

  -- nothing is left
  pub searching_end : IsUsedUp (queues_of front) → IsFinished map source front.keys (take count order)
  searching_end over = record {
    progress = r.progress;
    over = λ b reached. elim (r.queues.waiting b reached) [
      | inl was ↦ was
      | inr left ↦ elim left [
        | inl (k, from, below, at) ↦ let none : length front.straight.pushed ≤ front.straight.taken = over.0 in absurd (omega arith)
        | inr (k, from, below, at) ↦ let none : length front.diagonal.pushed ≤ front.diagonal.taken = over.1 in absurd (omega arith)
      ]
    ];
    limit = r.limit;
  }

-- a turn in the words of the code, which looks up the place of the entry's cell
module _ (map : Map) (source : Cell) (order : List Cell) (count : ℕ) (begun before front : Opened) (entry : Waiting)
    (searching : IsSearching map source order count before) (space : HasSpace map begun) (long : length before.keys ≡ length begun.keys)
    (straight : before.straight.room ≡ begun.straight.room) (diagonal : before.diagonal.room ≡ begun.diagonal.room)
    (same_keys : front.keys ≡ before.keys) (taken : IsFirstTaken entry (queues_of before) (queues_of front))
    (place width : ℕ) (here : place ≡ place_of width entry.cell) (w : width ≡ map.width) where
  u : IsTurn map source order count entry before front
  u = turn_of map source order count before searching entry front same_keys taken

  pub space_left : HasSpace map front
  space_left =
      space_kept map begun front space (ap length u.same_keys ∙ long) (u.rooms.0 ∙ straight) (u.rooms.1 ∙ diagonal)

  at : place ≡ place_of map.width entry.cell
  at = here ∙ ap (λ n. place_of n entry.cell) w

  pub entry_place : place < length front.keys
  entry_place =
      let inside : place_of map.width entry.cell < map.width * map.height =
      place_inside map.width map.height entry.cell u.passable.inside.column u.passable.inside.row in
      let p : place ≡ place_of map.width entry.cell = at in
      let fits : map.width * map.height ≤ length front.keys = space_left.fits in
      omega arith

  -- the code reads the key of the entry's cell
  pub entry_read : key_at map.width front.keys entry.cell ≡ get_or front.keys place 0
  entry_read = sym (get_or_default front.keys place 0 NO_KEY entry_place ∙ ap (λ p. get_or front.keys p NO_KEY) at)

  -- an entry that does not hold its cell's key is dropped
  pub entry_dropped : (get_or front.keys place 0 ≡ entry.key → ⊥) → IsSearching map source order count front
  entry_dropped differs = u.stale (λ e. differs (sym entry_read ∙ e))

  -- one that holds it is settled
  module _ (passable : IsPassable map source) (few : IsSearchable map) (room : passable_count map ≤ length order)
      (holds : get_or front.keys place 0 ≡ entry.key) where
    live : key_at map.width front.keys entry.cell ≡ entry.key
    live = entry_read ∙ holds

    pub settled_room : count < length order
    settled_room =
        let left : length (take count order) < passable_count map =
        room_left map source front.keys (take count order) passable u.progress entry.cell (u.next live) in
        let cut : length (take count order) ≡ count = length-take-le count order u.counted in
        omega arith

    pub settled_last : IsSettledLast map entry place
    settled_last = record {
      passable = u.passable;
      at = at;
      key =
          let e : key_at map.width front.keys entry.cell ≡ entry.key = live in
          let k : key_at map.width front.keys entry.cell ≤ GREATEST_KEY =
          key_few map source front.keys (take count order) passable u.progress entry.cell few (u.next live).reached in
          omega arith;
    }

    pub settled_ready : AreReady map entry.key front
    settled_ready = record { settled = take count order ++ entry.cell ∷ []; queues = u.queues live; space = space_left }

    pub searching_more : (after : Opened) → AreStepsTaken map entry EveryMove front after
        → IsSearching map source (set order count entry.cell) (count + 1) after
    searching_more after steps =
        let relaxed : IsRelaxed map entry.cell (key_at map.width front.keys entry.cell) EveryMove front.keys after.keys =
        subst (λ k. IsRelaxed map entry.cell k EveryMove front.keys after.keys) (sym live) steps.relaxed in
        let longer : take count order ++ entry.cell ∷ [] ≡ take (count + 1) (set order count entry.cell) =
        sym (take_more_set order count entry.cell settled_room) in
        record {
          progress = subst (IsProgress map source after.keys) longer
              (turn map source front.keys (take count order) passable u.progress entry.cell (u.next live) after.keys relaxed);
          limit = λ b inside.
              let low : key_at map.width after.keys b ≤ key_at map.width front.keys b = steps.relaxed.lower b inside in
              let k : key_at map.width front.keys b ≤ NO_KEY = u.limit b inside in
              omega arith;
          counted = let inside : count < length order = settled_room in omega (arith, length-set order count entry.cell);
          level = entry.key;
          queues = subst (λ list. AreOpened map list entry.key after) longer (steps.queues (take count order ++ entry.cell ∷ []) (u.queues live));
        }
