-- Taking the steps from a cell one after another.
use Rattle.std.proofs.Common.{◌≡◌, ℕ, ◌+◌, ◌*◌, ◌<◌, ◌≤◌, ◌⊎◌, List, length, get_or, set, refl, sym, ap, ◌∙◌, subst, inl, inr, arith, get_or-set_same, get_or-set_other}
use Rattle.std.proofs.lemmas.Bool.{cases_eq, cases_lt}
use Rattle.std.proofs.lemmas.List.{get_or_default}
use Rattle.moves.specs.declared.Cell.{Cell}
use Rattle.moves.specs.declared.Move.{Move}
use Rattle.moves.specs.Maps.{Map, place_of}
use Rattle.moves.specs.Moves.{number_of, IsTarget, IsLegal, HasLegal}
use Rattle.moves.proofs.MoveLaws.{same_target, same_move}
use Rattle.grid_search.specs.Keys.{move_key, key_at}
use Rattle.grid_search.specs.Settling.{IsRelaxed, OnlyMove}
use Rattle.moves.proofs.RowMajor.{place_inside, same_cell_from_place}
use Rattle.root_cost.specs.declared.TheConstants.{NO_KEY}

module _ (map : Map) (from : Cell) (key : ℕ) where
  pub relaxed_none : (taken : Move → Type 0) (keys : List ℕ) → ((move : Move) → taken move → ⊥) → IsRelaxed map from key taken keys keys
  relaxed_none taken keys none = record {
    lower = λ b inside. omega arith;
    moved = λ b move h legal. absurd (none move h);
    from_there = λ b inside. inl refl;
    beyond = λ place h. refl;
  }

  pub relaxed_then : (taken more both : Move → Type 0) (a b c : List ℕ) → ((move : Move) → both move → taken move ⊎ more move)
      → IsRelaxed map from key taken a b → IsRelaxed map from key more b c → IsRelaxed map from key both a c
  relaxed_then taken more both a b c which r s = record {
    lower = λ cell inside. let h : key_at map.width b cell ≤ key_at map.width a cell = r.lower cell inside in
        let k : key_at map.width c cell ≤ key_at map.width b cell = s.lower cell inside in omega arith;
    moved = λ cell move h legal. elim (which move h) [
      | inl first ↦
          let low : key_at map.width b cell ≤ key + move_key move = r.moved cell move first legal in
          let k : key_at map.width c cell ≤ key_at map.width b cell = s.lower cell legal.enters.passable.inside in
          omega arith
      | inr second ↦ s.moved cell move second legal
    ];
    from_there = λ cell inside. elim (s.from_there cell inside) [
      | inl same ↦ elim (r.from_there cell inside) [
        | inl before ↦ inl (same ∙ before)
        | inr (move, legal, e) ↦ inr (move, legal, same ∙ e)
      ]
      | inr moved ↦ inr moved
    ];
    beyond = λ place h. s.beyond place h ∙ r.beyond place h;
  }

  -- nothing to do where no target of the move has a key that is more than a step above
  pub relaxed_skip : (by : Move) (keys : List ℕ) → ((to : Cell) → IsLegal map from by to → key_at map.width keys to ≤ key + move_key by)
      → IsRelaxed map from key (OnlyMove by) keys keys
  relaxed_skip by keys low = record {
    lower = λ b inside. omega arith;
    moved = λ b move same legal.
        let h : key_at map.width keys b ≤ key + move_key by = low b (subst (λ m. IsLegal map from m b) (sym same) legal) in
        let step : move_key by ≡ move_key move = ap move_key same in
        omega arith;
    from_there = λ b inside. inl refl;
    beyond = λ place h. refl;
  }

  module _ (by : Move) (to : Cell) (keys : List ℕ) (target : IsTarget from by to) where
    pub relaxed_set : (place step : ℕ) → place ≡ place_of map.width to → step ≡ move_key by → IsLegal map from by to → map.width * map.height ≤ length keys
        → key + step < get_or keys place NO_KEY → IsRelaxed map from key (OnlyMove by) keys (set keys place (key + step))
    relaxed_set place step here is_step legal fits less =
        let inside : place_of map.width to < map.width * map.height = place_inside map.width map.height to legal.enters.passable.inside.column legal.enters.passable.inside.row in
        let there : get_or (set keys place (key + step)) place NO_KEY ≡ key + step = get_or-set_same keys place (key + step) NO_KEY (omega arith) in
        record {
          lower = λ b within. elim (cases_eq (place_of map.width b) place) [
            | inl same ↦
                let h : key_at map.width (set keys place (key + step)) b ≡ key + step = ap (λ p. get_or (set keys place (key + step)) p NO_KEY) same
                ∙ there in
                let k : key_at map.width keys b ≡ get_or keys place NO_KEY = ap (λ p. get_or keys p NO_KEY) same in
                omega arith
            | inr apart ↦
                let h : key_at map.width (set keys place (key + step)) b ≡ key_at map.width keys b = get_or-set_other keys place (place_of map.width b)
                (key + step) NO_KEY apart in
                omega arith
          ];
          moved = λ b move same legal_b.
              let legal_by : IsLegal map from by b = subst (λ m. IsLegal map from m b) (sym same) legal_b in
              let cell : to ≡ b = same_target from by to b target legal_by.target in
              let h : key_at map.width (set keys place (key + step)) b ≡ key + step = ap (λ p. get_or (set keys place (key + step)) p NO_KEY)
              (sym (here ∙ ap (place_of map.width) cell)) ∙ there in
              let k : move_key by ≡ move_key move = ap move_key same in
              omega arith;
          from_there = λ b within. elim (cases_eq (place_of map.width b) place) [
            | inl same ↦
                let cell : to ≡ b = same_cell_from_place map.width to b legal.enters.passable.inside.column within.column (sym (same ∙ here)) in
                inr (
                  by,
                  subst (λ c. IsLegal map from by c) cell legal,
                  ap (λ p. get_or (set keys place (key + step)) p NO_KEY) same ∙ there
                      ∙ ap (λ n. key + n) is_step,
                )
            | inr apart ↦ inl (get_or-set_other keys place (place_of map.width b) (key + step) NO_KEY apart)
          ];
          beyond = λ p h. let apart : p ≡ place → ⊥ = λ e. omega arith in get_or-set_other keys place p (key + step) NO_KEY apart;
        }

    -- the same, as the code reads the key and knows that the move is legal
    pub relaxed_written : (place step width : ℕ) → place ≡ place_of width to → width ≡ map.width → step ≡ move_key by → HasLegal map from by
        → map.width * map.height ≤ length keys
        → key + step < get_or keys place 0 → IsRelaxed map from key (OnlyMove by) keys (set keys place (key + step))
    relaxed_written place step width here w is_step (other, legal) fits less =
        let there : other ≡ to = same_target from by other to legal.target target in
        let legal_to : IsLegal map from by to = subst (λ cell. IsLegal map from by cell) there legal in
        let at : place ≡ place_of map.width to = here ∙ ap (λ n. place_of n to) w in
        let inside : place_of map.width to < map.width * map.height = place_inside map.width map.height to legal_to.enters.passable.inside.column legal_to.enters.passable.inside.row in
        let read : get_or keys place 0 ≡ get_or keys place NO_KEY = get_or_default keys place 0 NO_KEY (omega arith) in
        relaxed_set place step at is_step legal_to fits (omega arith)

pub which_number : (n : ℕ) (by : Move) → number_of by ≡ n → (move : Move) → number_of move < n + 1 → (number_of move < n) ⊎ OnlyMove by move
which_number n by e move h = elim (cases_lt (number_of move) n) [
  | inl earlier ↦ inl earlier
  | inr now ↦ inr (same_move by move (omega arith))
]
