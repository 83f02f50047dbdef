-- The moves by which the source itself attains a cell's cost, one neighbour of the source after the other.
use Rattle.std.proofs.Common.{◌≡◌, ◌≢◌, ◌⊎◌, ◌↔◌, ℕ, ◌+◌, ◌*◌, ◌<◌, ◌≤◌, inl, inr, sym, ap, subst, ◌∙◌, arith, List, length, get_or, set}
use Rattle.std.proofs.lemmas.Bool.{cases_lt}
use Rattle.std.proofs.lemmas.List.{get_or-set_other, get_or_default}
use Rattle.moves.specs.declared.Cell.{Cell}
use Rattle.moves.specs.declared.Move.{Move}
use Rattle.moves.specs.Maps.{Map, IsInside, IsPassable, place_of}
use Rattle.moves.specs.MoveSets.{Has}
use Rattle.moves.specs.Neighbours.{AreNeighbours}
use Rattle.grid_search.specs.Searches.{Searched, HasSearched}
use Rattle.first_sets.specs.Steps.{Attains, set_in, IsPassed}
use Rattle.first_sets.specs.Memory.{AreEmpty}
use Rattle.first_sets.proofs.Standing.{filler, same_or_apart, place_below, no_step_to_source}
use Rattle.first_sets.proofs.Passing.{has_same, set_in_same, set_in_other}

-- the move to that cell is among the first `n` neighbours, and attains the cell's cost
abbrev pub IsSeeded : Map → Cell → Searched → List (Move × Cell) → ℕ → Cell → Move → Type 0
IsSeeded map source search found n cell move = (k : ℕ) × (k < n) × (get_or found k filler ≡ (move, cell)) × Attains map search source move cell

-- the first `n` neighbours of the source have been looked at
pub record IsBegun (map : Map) (source : Cell) (search : Searched) (found : List (Move × Cell)) (n : ℕ) (sets : List ℕ) : Type 0 where
  pub each : (cell : Cell) → IsInside map cell → (move : Move) → Has (set_in map.width sets cell) move ↔ IsSeeded map source search found n cell move
  pub beyond : (place : ℕ) (move : Move) → map.width * map.height ≤ place → Has (get_or sets place 0) move → ⊥

pub begun_none : (map : Map) (source : Cell) (search : Searched) (found : List (Move × Cell)) (sets : List ℕ) → AreEmpty sets
    → IsBegun map source search found 0 sets
begun_none map source search found sets empty = record {
  each = λ cell inside move. (λ h. absurd (empty (place_of map.width cell) move h), λ h. absurd (omega arith));
  beyond = λ place move past h. empty place move h;
}

module _ (map : Map) (source : Cell) (search : Searched) (found : List (Move × Cell)) (n : ℕ) (sets : List ℕ) (l : n < length found) (pair : Move × Cell)
    (here : get_or found n filler ≡ pair) (begun : IsBegun map source search found n sets) where
  begun_past : (cell : Cell) (move : Move) → IsSeeded map source search found n cell move → IsSeeded map source search found (n + 1) cell move
  begun_past cell move h = (h.0, let low = h.1 in omega arith, h.2, h.3)

  -- among the first `n + 1` neighbours, one that is not among the first `n` is the next
  next_neighbour : (k : ℕ) (cell : Cell) (move : Move) → k < n + 1 → n ≤ k → get_or found k filler ≡ (move, cell) → pair ≡ (move, cell)
  next_neighbour k cell move below high at =
      let last : k ≡ n = omega arith in
      sym here ∙ ap (λ j. get_or found j filler) (sym last) ∙ at

  -- a neighbour whose cost the move does not attain changes nothing
  pub begun_no_more : (Attains map search source pair.0 pair.1 → ⊥) → IsBegun map source search found (n + 1) sets
  begun_no_more none = record {
    each = λ cell inside move. (
      λ h. begun_past cell move ((begun.each cell inside move).0 h),
      λ h. elim (cases_lt h.0 n) [
        | inl low ↦ (begun.each cell inside move).1 (h.0, low, h.2, h.3)
        | inr high ↦
            let same = next_neighbour h.0 cell move h.1 high h.2 in
            absurd (none (subst (λ p. Attains map search source p.0 p.1) (sym same) h.3))
      ],
    );
    beyond = begun.beyond;
  }

  module _ (fits : map.width * map.height ≤ length sets) (step : Attains map search source pair.0 pair.1) (new : ℕ)
      (made : (move : Move) → Has new move ↔ (Has (set_in map.width sets pair.1) move ⊎ (move ≡ pair.0))) where
    begun_at : (move : Move) → Has new move ↔ IsSeeded map source search found (n + 1) pair.1 move
    begun_at move = (
      λ h. elim ((made move).0 h) [
        | inl old ↦ begun_past pair.1 move ((begun.each pair.1 step.legal.enters.passable.inside move).0 old)
        | inr e ↦
            let same : pair ≡ (move, pair.1) = λ i. (sym e i, pair.1) in
            (n, omega arith, here ∙ same, subst (λ m. Attains map search source m pair.1) (sym e) step)
      ],
      λ h. elim (cases_lt h.0 n) [
        | inl low ↦ (made move).1 (inl ((begun.each pair.1 step.legal.enters.passable.inside move).1 (h.0, low, h.2, h.3)))
        | inr high ↦
            let same = next_neighbour h.0 pair.1 move h.1 high h.2 in
            (made move).1 (inr (ap (λ p. p.0) (sym same)))
      ],
    )

    begun_apart : (cell : Cell) → IsInside map cell → pair.1 ≢ cell → (move : Move)
        → Has (set_in map.width sets cell) move ↔ IsSeeded map source search found (n + 1) cell move
    begun_apart cell inside apart move = (
      λ h. begun_past cell move ((begun.each cell inside move).0 h),
      λ h. elim (cases_lt h.0 n) [
        | inl low ↦ (begun.each cell inside move).1 (h.0, low, h.2, h.3)
        | inr high ↦
            let same = next_neighbour h.0 cell move h.1 high h.2 in
            absurd (apart (ap (λ p. p.1) same))
      ],
    )

    -- one whose cost it attains has that move
    pub begun_more : IsBegun map source search found (n + 1) (set sets (place_of map.width pair.1) new)
    begun_more =
        let within = step.legal.enters.passable.inside in
        record {
          each = λ cell inside move. elim (same_or_apart map pair.1 cell within inside) [
            | inl e ↦
                let here = set_in_same map sets pair.1 new fits within in
                subst (λ x. Has (set_in map.width (set sets (place_of map.width pair.1) new) x) move ↔ IsSeeded map source search found (n + 1) x move) e
                (has_same _ _ move _ here (begun_at move))
            | inr apart ↦
                let away : pair.1 ≢ cell = λ e. apart (ap (place_of map.width) e) in
                has_same _ _ move _ (set_in_other map sets pair.1 cell new within inside away) (begun_apart cell inside away move)
          ];
          beyond = λ place move past h.
              let low = place_below map pair.1 within in
              let n : place ≢ place_of map.width pair.1 = omega arith in
              begun.beyond place move past (subst (λ s. Has s move) (get_or-set_other sets (place_of map.width pair.1) place new 0 n) h);
        }

pub begun_all : (map : Map) (source : Cell) (search : Searched) (found : List (Move × Cell)) (sets : List ℕ) → HasSearched map source search
    → IsPassable map source
    → AreNeighbours map source found → IsBegun map source search found (length found) sets → IsPassed map source search 0 sets
begun_all map source search found sets has free near begun =
    let each : (cell : Cell) → IsInside map cell → (move : Move) → Has (set_in map.width sets cell) move ↔ Attains map search source move cell
    = λ cell inside move. (
      λ h. ((begun.each cell inside move).0 h).3,
      λ step. let at = near.every move cell step.legal in (begun.each cell inside move).1
          (at.0, at.1, get_or_default found at.0 filler (move, cell) at.1 ∙ at.2, step),
    ) in
    record {
      empty = λ move h. no_step_to_source map source search has source move ((each source free.inside move).0 h);
      done = λ j low away move. absurd (omega arith);
      waiting = λ cell inside apart move. each cell inside move;
      beyond = begun.beyond;
    }
