-- The law of gates, for the side: from its last gate on, nothing on a path to a cell of the side depends on what is
-- taken out. And from the side a path comes to a gate before it comes anywhere else.
use Rattle.std.proofs.Common.{◌≡◌, ◌⊎◌, Bool, true, List, [], ◌∷◌, ◌++◌, sym, ap, ◌∙◌, subst, inl, inr, refl}
use Rattle.std.proofs.lemmas.Bool.{false≢true, cases_Bool}
use Rattle.moves.specs.declared.Cell.{Cell}
use Rattle.moves.specs.declared.Move.{Move}
use Rattle.moves.specs.Maps.{Map, IsPassable}
use Rattle.moves.specs.Moves.{opposite, corner, IsLegal}
use Rattle.moves.specs.Paths.{Leads}
use Rattle.moves.proofs.MoveLaws.{legal_back}
use Rattle.moves.proofs.LawsOfPaths.{one_move}
use Rattle.moves.proofs.StraightPaths.{replaced}
use Rattle.kept_sources.specs.Parts.{IsPart}
use Rattle.kept_sources.specs.Gates.{IsApart, AgreesAt, GatesKeepSides}
use Rattle.kept_sources.proofs.Parting.{stays, legal_in_part, legal_if_back}
use Rattle.kept_sources.proofs.Rejoining.{Rejoins, rejoins_later, Agrees, rejoined_first, rejoined_cost}

-- a path of the part that begins in the side
record StaysInside (part : Map) (side : Cell → Bool) (from : Cell) (moves : List Move) (to : Cell) : Type 0 where
  inside : side from ≡ true
  path : Leads part from moves to

-- a path from the side as it comes to its first gate, by a path of the part
pub record ComesToGate (map part : Map) (gate : Cell → Bool) (from : Cell) (move : Move) (moves : List Move) (to : Cell) : Type 0 where
  pub front : List Move
  pub rest : List Move
  pub at : Cell
  pub whole : moves ≡ front ++ rest
  pub is_gate : gate at ≡ true
  pub way : Leads map from (move ∷ front) at
  pub way_of_part : Leads part from (move ∷ front) at
  pub onward : Leads map at rest to

module _ (map part : Map) (gate side : Cell → Bool) (is_part : IsPart map part) (apart : IsApart map part gate side) where
  -- what is reached from the side by one move stays
  next_stays : (from : Cell) (move : Move) (to : Cell) → side from ≡ true → IsLegal map from move to → IsPassable part to
  next_stays from move to inside legal = elim (cases_Bool (gate to)) [
    | inl there ↦ stays map part is_part to legal.enters.passable (apart.gates_stay to there)
    | inr none ↦ stays map part is_part to legal.enters.passable (apart.side_stays to (apart.closed from move to inside legal none))
  ]

  legal_from_side : (from : Cell) (move : Move) (to : Cell) → side from ≡ true → IsLegal map from move to → IsLegal part from move to
  legal_from_side from move to inside legal =
      legal_in_part map part is_part from move to legal (stays map part is_part from legal.leaves (apart.side_stays from inside))
      (next_stays from move to inside legal)
      (λ d. let r = replaced map from move to legal d in
      (next_stays from _ (corner from to) inside r.rise, next_stays from _ (corner to from) inside r.aside))

  legal_to_side : (from : Cell) (move : Move) (to : Cell) → side to ≡ true → IsLegal map from move to → IsLegal part from move to
  legal_to_side from move to inside legal =
      legal_if_back map part is_part from move to (legal_from_side to (opposite move) from inside (legal_back map from move to legal))

  abbrev pub IsGate : Cell → Type 0
  IsGate cell = gate cell ≡ true

  split : (from : Cell) (moves : List Move) (to : Cell) → Leads map from moves to → side to ≡ true
      → StaysInside part side from moves to ⊎ Rejoins map part IsGate from moves to
  split from [] to path inside =
      let here : side from ≡ true = subst (λ c. side c ≡ true) (sym path.1) inside in
      inl (record { inside = here; path = (stays map part is_part from path.0 (apart.side_stays from here), path.1) })
  split from (move ∷ moves) to path inside =
      elim (split path.0 moves to path.2 inside) [
        | inr later ↦ inr (rejoins_later map part IsGate from move moves to path later)
        | inl stay ↦
            let legal = legal_to_side from move path.0 stay.inside path.1 in
            elim (cases_Bool (gate from)) [
              | inr none ↦
                  let here = apart.closed path.0 (opposite move) from stay.inside (legal_back map from move path.0 path.1) none in
                  inl (record { inside = here; path = (path.0, legal, stay.path) })
              | inl there ↦ inr (record {
                first = [];
                move = move;
                rest = moves;
                last = from;
                whole = refl;
                at = there;
                front = (path.1.leaves, refl);
                back = (path.0, legal, stay.path);
              })
            ]
      ]

  split_path : (source to : Cell) → side to ≡ true → (moves : List Move) → Leads map source moves to
      → Leads part source moves to ⊎ Rejoins map part IsGate source moves to
  split_path source to inside moves path = elim (split source moves to path inside) [ inl stay ↦ inl stay.path | inr later ↦ inr later ]

  pub keeps_side : (source : Cell) → AgreesAt map part gate source → AgreesAt map part side source
  keeps_side source keeps =
      let agrees : Agrees map part source IsGate = record { first = keeps.first; cost = keeps.cost } in
      record {
        first = λ to inside. rejoined_first map part is_part source to IsGate agrees (split_path source to inside);
        cost = λ to inside. rejoined_cost map part is_part source to IsGate agrees (split_path source to inside);
      }

  gate_at_once : (from : Cell) (move : Move) (moves : List Move) (to : Cell) → side from ≡ true → (path : Leads map from (move ∷ moves) to)
      → gate path.0 ≡ true → ComesToGate map part gate from move moves to
  gate_at_once from move moves to inside path there = record {
    front = [];
    rest = moves;
    at = path.0;
    whole = refl;
    is_gate = there;
    way = one_move map from path.0 move path.1;
    way_of_part = one_move part from path.0 move (legal_from_side from move path.0 inside path.1);
    onward = path.2;
  }

  -- a path from the side to a gate, or to a cell that is not of the side, comes to a gate
  pub comes_to_gate : (from : Cell) (move : Move) (moves : List Move) (to : Cell) → side from ≡ true → Leads map from (move ∷ moves) to
      → (side to ≡ true → gate to ≡ true) → ComesToGate map part gate from move moves to
  comes_to_gate from move [] to inside path beyond = elim (cases_Bool (gate path.0)) [
    | inl there ↦ gate_at_once from move [] to inside path there
    | inr none ↦
        let ends : path.0 ≡ to = path.2.1 in
        let within = subst (λ c. side c ≡ true) ends (apart.closed from move path.0 inside path.1 none) in
        absurd (false≢true (sym none ∙ subst (λ c. gate c ≡ true) (sym ends) (beyond within)))
  ]
  comes_to_gate from move (next ∷ moves) to inside path beyond = elim (cases_Bool (gate path.0)) [
    | inl there ↦ gate_at_once from move (next ∷ moves) to inside path there
    | inr none ↦
        let later = comes_to_gate path.0 next moves to (apart.closed from move path.0 inside path.1 none) path.2 beyond in
        record {
          front = next ∷ later.front;
          rest = later.rest;
          at = later.at;
          whole = ap (λ ms. next ∷ ms) later.whole;
          is_gate = later.is_gate;
          way = (path.0, path.1, later.way);
          way_of_part = (path.0, legal_from_side from move path.0 inside path.1, later.way_of_part);
          onward = later.onward;
        }
  ]

pub gates_keep_sides : GatesKeepSides
gates_keep_sides map part gate side source is_part apart keeps = keeps_side map part gate side is_part apart source keeps
