-- Taking the steps from a cell one after another, with the keys and both queues.
use Rattle.std.proofs.Common.{◌≡◌, ℕ, ◌+◌, ◌*◌, ◌/◌, ◌^◌, ◌<◌, ◌≤◌, ◌⊎◌, Bool, true, false, IsBitSet, List, length, get_or, set, refl, sym, ap, ◌∙◌, subst, inl, inr, arith}
use Rattle.std.specs.Int.Bits.{bit_and}
use Rattle.std.proofs.lemmas.Nat.{bit_set_by_shift}
use Rattle.std.proofs.lemmas.List.{length-set, get_or_default}
use Rattle.moves.specs.declared.Cell.{Cell}
use Rattle.moves.specs.declared.Move.{Move}
use Rattle.moves.specs.declared.Move.TheVariants.{N, NE, E, SE, S, SW, W, NW}
use Rattle.moves.specs.Maps.{Map, place_of, passable_count}
use Rattle.moves.specs.Moves.{number_of, is_diagonal, IsTarget, IsLegal, HasLegal}
use Rattle.moves.specs.MoveMasks.{IsMoveMask}
use Rattle.moves.proofs.MoveLaws.{same_target}
use Rattle.grid_search.specs.declared.queue.Waiting.{Waiting}
use Rattle.root_cost.specs.Keys.{step_key}
use Rattle.grid_search.specs.Keys.{move_key, key_at}
use Rattle.grid_search.specs.Settling.{IsRelaxed, IsTargetPlace, OnlyMove, EveryMove}
use Rattle.grid_search.specs.Queues.{Pushes, push_to, AreQueues, Opened, AreOpened, AreReady, AreStepsTaken}
use Rattle.moves.proofs.RowMajor.{place_inside}
use Rattle.grid_search.proofs.Relaxing.{relaxed_then, relaxed_skip, relaxed_written}
use Rattle.grid_search.proofs.Queueing.{swapped, pushed, room_for, space_kept}
use Rattle.root_cost.specs.declared.TheConstants.{NO_KEY, STRAIGHT_KEY, DIAGONAL_KEY, GREATEST_KEY}

module _ (map : Map) (from : Waiting) where
  pub steps_then : (taken more both : Move → Type 0) (a b c : Opened) → ((move : Move) → both move → taken move ⊎ more move)
      → AreStepsTaken map from taken a b → AreStepsTaken map from more b c → AreStepsTaken map from both a c
  steps_then taken more both a b c which r q = record {
    relaxed = relaxed_then map from.cell from.key taken more both a.keys b.keys c.keys which r.relaxed q.relaxed;
    queues = λ settled h. q.queues settled (r.queues settled h);
    rooms = (q.rooms.0 ∙ r.rooms.0, q.rooms.1 ∙ r.rooms.1);
    none_taken = (q.none_taken.0 ∙ r.none_taken.0, q.none_taken.1 ∙ r.none_taken.1);
    length_kept = q.length_kept ∙ r.length_kept;
  }

  pub ready_after : (taken : Move → Type 0) (a b : Opened) → AreReady map from.key a → AreStepsTaken map from taken a b → AreReady map from.key b
  ready_after taken a b ready r = record {
    settled = ready.settled;
    queues = r.queues ready.settled ready.queues;
    space = space_kept map a b ready.space r.length_kept r.rooms.0 r.rooms.1;
  }

  pub step_skipped : (by : Move) (front : Opened) → ((to : Cell) → IsLegal map from.cell by to → key_at map.width front.keys to ≤ from.key + move_key by)
      → AreStepsTaken map from (OnlyMove by) front front
  step_skipped by front low = record {
    relaxed = relaxed_skip map from.cell from.key by front.keys low;
    queues = λ settled h. h;
    rooms = (refl, refl);
    none_taken = (refl, refl);
    length_kept = refl;
  }

  -- a move is legal where its bit is set in the mask, as the code tests it
  module _ (by : Move) (mask number : ℕ) (masked : IsMoveMask map from.cell mask) (numbered : number ≡ number_of by) where
    pub legal_if_set : bit_and (mask / 2 ^ number) 1 ≡ 1 → HasLegal map from.cell by
    legal_if_set set = (masked by).0 (subst (IsBitSet mask) numbered ((bit_set_by_shift mask number).0 set))

    pub set_if_legal : HasLegal map from.cell by → bit_and (mask / 2 ^ number) 1 ≡ 1
    set_if_legal has = (bit_set_by_shift mask number).1 (subst (IsBitSet mask) (sym numbered) ((masked by).1 has))

  -- The code's names: the mask of legal moves, where the target stands, what a step costs, and how the target's key is
  -- read.
  module _ (by : Move) (to : Cell) (front : Opened) (mask number place width step : ℕ) (diagonal : Bool)
      (masked : IsMoveMask map from.cell mask) (numbered : number ≡ number_of by) (set_bit : bit_and (mask / 2 ^ number) 1 ≡ 1)
      (placed : IsTargetPlace width from.cell by place) (w : width ≡ map.width)
      (keyed : step ≡ step_key diagonal) (kind : diagonal ≡ is_diagonal by)
      (target : IsTarget from.cell by to) (ready : AreReady map from.key front) (few : from.key ≤ GREATEST_KEY) where
    has : HasLegal map from.cell by
    has = legal_if_set by mask number masked numbered set_bit

    here : place ≡ place_of width to
    here = placed to target

    is_step : step ≡ move_key by
    is_step = keyed ∙ ap step_key kind

    legal_to : IsLegal map from.cell by to
    legal_to = subst (λ cell. IsLegal map from.cell by cell) (same_target from.cell by has.0 to has.1.target target) has.1

    at : place ≡ place_of map.width to
    at = here ∙ ap (λ n. place_of n to) w

    pub place_fits : place < length front.keys
    place_fits =
        let inside : place_of map.width to < map.width * map.height = place_inside map.width map.height to legal_to.enters.passable.inside.column legal_to.enters.passable.inside.row in
        let p : place ≡ place_of map.width to = at in
        let fits : map.width * map.height ≤ length front.keys = ready.space.fits in
        omega arith

    read : get_or front.keys place 0 ≡ key_at map.width front.keys to
    read = get_or_default front.keys place 0 NO_KEY place_fits ∙ ap (λ p. get_or front.keys p NO_KEY) at

    pub step_not_lower : get_or front.keys place 0 ≤ from.key + step → AreStepsTaken map from (OnlyMove by) front front
    step_not_lower high = step_skipped by front (λ other legal.
        let same : to ≡ other = same_target from.cell by to other target legal.target in
        let k : key_at map.width front.keys to ≡ key_at map.width front.keys other = ap (key_at map.width front.keys) same in
        let r : get_or front.keys place 0 ≡ key_at map.width front.keys to = read in
        omega (arith, is_step))

    module _ (less : from.key + step < get_or front.keys place 0) where
      relaxed_now : IsRelaxed map from.cell from.key (OnlyMove by) front.keys (set front.keys place (from.key + step))
      relaxed_now = relaxed_written map from.cell from.key by to front.keys target place step width here w is_step has ready.space.fits less

      -- the queues, at any kind of step
      queues_now : (n other_step : ℕ) (settled : List Cell) (queue other : Pushes) → step ≡ n → n ≤ DIAGONAL_KEY
          → AreQueues map front.keys settled from.key n queue other_step other
          → AreQueues map (set front.keys place (from.key + step)) settled from.key n
          (push_to queue (record { key = from.key + step; cell = to })) other_step other
      queues_now n other_step settled queue other e small q =
          let r : get_or front.keys place 0 ≡ key_at map.width front.keys to = read in
          let lower : from.key + n < key_at map.width front.keys to = omega arith in
          let found : from.key + n < NO_KEY = omega arith in
          let F : ℕ → ℕ → Type 0 = λ p k. AreQueues map (set front.keys p (from.key + k)) settled from.key n
          (push_to queue (record { key = from.key + k; cell = to })) other_step other in
          let done : F (place_of map.width to) n = pushed map front.keys settled from.key n to legal_to.enters.passable lower ready.space.fits found other_step queue other q in
          subst (λ k. F place k) (sym e) (subst (λ p. F p n) (sym at) done)

      room_now : (n other_step : ℕ) (settled : List Cell) (queue other : Pushes) → step ≡ n → passable_count map ≤ queue.room
          → AreQueues map front.keys settled from.key n queue other_step other → length queue.pushed < queue.room
      room_now n other_step settled queue other e room q =
          let r : get_or front.keys place 0 ≡ key_at map.width front.keys to = read in
          let lower : from.key + n < key_at map.width front.keys to = omega arith in
          let count : length queue.pushed < passable_count map = room_for map front.keys settled from.key n to legal_to.enters.passable lower queue q.first in
          omega arith

      module _ (straight : diagonal ≡ false) where
        straight_step : step ≡ STRAIGHT_KEY
        straight_step = keyed ∙ ap step_key straight

        pub straight_room : length front.straight.pushed < front.straight.room
        straight_room = room_now STRAIGHT_KEY DIAGONAL_KEY ready.settled front.straight front.diagonal straight_step ready.space.straight_room ready.queues

        after_straight : Opened
        after_straight = record front {
          keys = set front.keys place (from.key + step);
          straight = push_to front.straight
              (record { key = from.key + step; cell = to });
        }

        by_straight : AreStepsTaken map from (OnlyMove by) front after_straight
        unfolding after_straight
        by_straight = record {
          relaxed = relaxed_now;
          queues = λ settled q. queues_now STRAIGHT_KEY DIAGONAL_KEY settled front.straight front.diagonal straight_step (omega arith) q;
          rooms = (refl, refl);
          none_taken = (refl, refl);
          length_kept = length-set front.keys place (from.key + step);
        }

        pub step_straight : (after : Opened) → after.keys ≡ set front.keys place (from.key + step)
            → after.straight ≡ push_to front.straight (record { key = from.key + step; cell = to }) → after.diagonal ≡ front.diagonal
            → AreStepsTaken map from (OnlyMove by) front after
        unfolding after_straight
        step_straight after k s d =
            let e : after_straight ≡ after = λ i. record { keys = sym k i; straight = sym s i; diagonal = sym d i } in
            subst (AreStepsTaken map from (OnlyMove by) front) e by_straight

      module _ (crossing : diagonal ≡ true) where
        diagonal_step : step ≡ DIAGONAL_KEY
        diagonal_step = keyed ∙ ap step_key crossing

        other_way : (settled : List Cell) → AreOpened map settled from.key front
            → AreQueues map front.keys settled from.key DIAGONAL_KEY front.diagonal STRAIGHT_KEY front.straight
        other_way settled q = swapped map front.keys settled from.key STRAIGHT_KEY DIAGONAL_KEY front.straight front.diagonal q

        pub diagonal_room : length front.diagonal.pushed < front.diagonal.room
        diagonal_room = room_now DIAGONAL_KEY STRAIGHT_KEY ready.settled front.diagonal front.straight diagonal_step ready.space.diagonal_room
            (other_way ready.settled ready.queues)

        after_diagonal : Opened
        after_diagonal = record front {
          keys = set front.keys place (from.key + step);
          diagonal = push_to front.diagonal
              (record { key = from.key + step; cell = to });
        }

        by_diagonal : AreStepsTaken map from (OnlyMove by) front after_diagonal
        unfolding after_diagonal
        by_diagonal = record {
          relaxed = relaxed_now;
          queues = λ settled q. swapped map (set front.keys place (from.key + step)) settled from.key DIAGONAL_KEY STRAIGHT_KEY
              (push_to front.diagonal (record { key = from.key + step; cell = to })) front.straight
              (queues_now DIAGONAL_KEY STRAIGHT_KEY settled front.diagonal front.straight diagonal_step (omega arith) (other_way settled q));
          rooms = (refl, refl);
          none_taken = (refl, refl);
          length_kept = length-set front.keys place (from.key + step);
        }

        pub step_diagonal : (after : Opened) → after.keys ≡ set front.keys place (from.key + step)
            → after.straight ≡ front.straight → after.diagonal ≡ push_to front.diagonal (record { key = from.key + step; cell = to })
            → AreStepsTaken map from (OnlyMove by) front after
        unfolding after_diagonal
        step_diagonal after k s d =
            let e : after_diagonal ≡ after = λ i. record { keys = sym k i; straight = sym s i; diagonal = sym d i } in
            subst (AreStepsTaken map from (OnlyMove by) front) e by_diagonal

-- the moves in the order in which they are taken
abbrev pub First2 : Move → Type 0
First2 move = OnlyMove N move ⊎ OnlyMove E move

abbrev pub First3 : Move → Type 0
First3 move = First2 move ⊎ OnlyMove S move

abbrev pub First4 : Move → Type 0
First4 move = First3 move ⊎ OnlyMove W move

abbrev pub First5 : Move → Type 0
First5 move = First4 move ⊎ OnlyMove NE move

abbrev pub First6 : Move → Type 0
First6 move = First5 move ⊎ OnlyMove SE move

abbrev pub First7 : Move → Type 0
First7 move = First6 move ⊎ OnlyMove SW move

pub every_move : (move : Move) → EveryMove move → First7 move ⊎ OnlyMove NW move
every_move N h = inl (inl (inl (inl (inl (inl (inl refl))))))
every_move E h = inl (inl (inl (inl (inl (inl (inr refl))))))
every_move S h = inl (inl (inl (inl (inl (inr refl)))))
every_move W h = inl (inl (inl (inl (inr refl))))
every_move NE h = inl (inl (inl (inr refl)))
every_move SE h = inl (inl (inr refl))
every_move SW h = inl (inr refl)
every_move NW h = inr refl
