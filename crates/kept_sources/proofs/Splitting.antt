-- Components of a map without one cell, on the map with it.
use Rattle.std.proofs.Common.{◌≡◌, ◌≢◌, true, false, List, sym, ap, ◌∙◌, subst, inl, inr, refl}
use Rattle.std.specs.Prelude.{Contains}
use Rattle.std.proofs.lemmas.Bool.{false≢true, cases_Bool}
use Rattle.moves.specs.declared.Cell.{Cell}
use Rattle.moves.specs.declared.Move.{Move}
use Rattle.moves.specs.Maps.{Map, IsInside, IsPassable, is_cell, has_cell}
use Rattle.moves.specs.Moves.{is_diagonal, opposite, corner, IsLegal}
use Rattle.moves.specs.Components.{IsComponent}
use Rattle.moves.specs.ComponentLaws.{HasJust}
use Rattle.moves.proofs.ComponentLaws.{member_is_passable, stays_inside}
use Rattle.moves.proofs.Connected.{Contains-from_has_cell, has_cell-from_contains, is_cell-same, is_cell-true}
use Rattle.moves.proofs.StraightPaths.{vertical, sideways, vertical_is_straight, sideways_is_straight, replaced}
use Rattle.moves.proofs.MoveLaws.{same_cell, legal_back, is_diagonal-opposite}
use Rattle.moves.proofs.TableLaws.{same_or_apart}
use Rattle.kept_sources.specs.Parts.{without}
use Rattle.kept_sources.specs.Gates.{IsLeftByGates, IsGivenByOne, IsPocket, IsInPocket}
use Rattle.kept_sources.specs.Splits.{ComponentsAreLeftByOne, SplitsGoByOne, AreOfOneClass, JustSomeAreAPart, HasAlso, PartsStandAlone}
use Rattle.kept_sources.proofs.Parting.{stays, legal_in_part}
use Rattle.kept_sources.proofs.Closing.{without_is_part, only_this, none_passable}
use Rattle.kept_sources.proofs.OneGate.{one_gate_gives_the_rest}
use Rattle.kept_sources.proofs.Pockets.{in_pocket_first, in_pocket_cost}

module _ (map : Map) (cell : Cell) (cells : List Cell) (inside : IsInside map cell) (component : IsComponent (without map cell) cells) where
  abbrev left : Map
  left = without map cell

  -- a cell of the component is not the one that is blocked
  apart_in : (from : Cell) → Contains cells from → from ≢ cell
  apart_in from has same = none_passable map cell inside (subst (IsPassable left) same (member_is_passable left cells component from has))

  still : (other : Cell) → IsPassable map other → other ≢ cell → IsPassable left other
  still other free apart = stays map left (without_is_part map cell inside) other free (λ taken. apart (only_this map cell inside other taken))

  -- a straight move that does not lead to the cell stays in the component
  straight_stays : (from : Cell) (move : Move) (to : Cell) → Contains cells from → IsLegal map from move to → is_diagonal move ≡ false → to ≢ cell → Contains cells to
  straight_stays from move to has legal straight apart =
      let leaves = still from legal.leaves (apart_in from has) in
      let enters = still to legal.enters.passable apart in
      stays_inside left cells component from move to has
      (legal_in_part map left (without_is_part map cell inside) from move to legal leaves enters (λ d. absurd (let e : false ≡ true = cc in false≢true e)))

  -- a diagonal move goes by way of one of its corners, which are not both the cell
  diagonal_stays : (from : Cell) (move : Move) (to : Cell) → Contains cells from → IsLegal map from move to → is_diagonal move ≡ true → to ≢ cell → Contains cells to
  diagonal_stays from move to has legal diagonal apart =
      let r = replaced map from move to legal diagonal in
      elim (same_or_apart (corner from to) cell) [
        | inr free ↦
            let by = straight_stays from (vertical move) (corner from to) has r.rise (vertical_is_straight move) free in
            straight_stays (corner from to) (sideways move) to by r.then_aside (sideways_is_straight move) apart
        | inl taken ↦
            let free : corner to from ≢ cell = λ also.
            let column : from.x ≡ to.x = ap (λ c. c.x) (taken ∙ sym also) in
            apart (sym (same_cell (corner from to) to column refl) ∙ taken) in
            let by = straight_stays from (sideways move) (corner to from) has r.aside (sideways_is_straight move) free in
            let back = opposite move in
            let r' = replaced map to back from (legal_back map from move to legal) (is_diagonal-opposite move ∙ diagonal) in
            straight_stays (corner to from) (opposite (vertical back)) to by (legal_back map to (vertical back) (corner to from) r'.rise)
            (is_diagonal-opposite (vertical back) ∙ vertical_is_straight back) apart
      ]

  left_by_one : IsLeftByGates map (is_cell cell) (has_cell cells)
  left_by_one from move to within legal none =
      let has = Contains-from_has_cell cells from within in
      let apart : to ≢ cell = λ same. false≢true (sym none ∙ is_cell-same cell to same) in
      has_cell-from_contains cells to (elim (cases_Bool (is_diagonal move)) [
        | inl diagonal ↦ diagonal_stays from move to has legal diagonal apart
        | inr straight ↦ straight_stays from move to has legal straight apart
      ])

  not_in : (other : Cell) → (Contains cells other → ⊥) → has_cell cells other ≡ false
  not_in other none = elim (cases_Bool (has_cell cells other)) [
    | inl there ↦ absurd (none (Contains-from_has_cell cells other there))
    | inr out ↦ out
  ]

  goes_by_one : (from to : Cell) → Contains cells from → (Contains cells to → ⊥) → IsGivenByOne map cell from to
  goes_by_one from to has none =
      one_gate_gives_the_rest map cell (has_cell cells) from to left_by_one (has_cell-from_contains cells from has) (apart_in from has) (not_in to none)

  module _ (part : Map) (all : List Cell) (also : HasAlso all cells cell) (alike : AreOfOneClass map all) (only : HasJust part all) where
    is_pocket : IsPocket map part cell (has_cell cells)
    is_pocket = record {
      closed = left_by_one;
      side_stays = λ other there taken.
          taken.gone ((only.just_these other).1 ((also other).1 (inl (Contains-from_has_cell cells other there))));
      gates_stay = λ other there taken. taken.gone ((only.just_these other).1 ((also other).1 (inr (is_cell-true cell other there))));
    }

    in_pocket : (other : Cell) → Contains all other → IsInPocket cell (has_cell cells) other
    in_pocket other has = elim ((also other).0 has) [ inl there ↦ inl (has_cell-from_contains cells other there) | inr same ↦ inr same ]

pub components_are_left_by_one : ComponentsAreLeftByOne
components_are_left_by_one map cell cells inside component = left_by_one map cell cells inside component

pub splits_go_by_one : SplitsGoByOne
splits_go_by_one map cell cells inside component = goes_by_one map cell cells inside component

pub just_some_are_a_part : JustSomeAreAPart
just_some_are_a_part map part cells alike only = record {
  passable = λ cell free. let has = (only.just_these cell).0 free in (alike cell cell has has).passable;
  alike = λ cell other here there.
      let a = (only.just_these cell).0 here in
      let b = (only.just_these other).0 there in
      (λ _. only.one_class cell other a b, λ _. alike cell other a b);
}

pub parts_stand_alone : PartsStandAlone
parts_stand_alone map part cell cells all inside component also alike only from to has_from has_to =
    let is_part = just_some_are_a_part map part all alike only in
    let pocket = is_pocket map cell cells inside component part all also alike only in
    let within = in_pocket map cell cells inside component part all also alike only in
    let side = has_cell cells in (
      in_pocket_first map part cell side is_part pocket from to (within from has_from) (within to has_to),
      in_pocket_cost map part cell side is_part pocket from to (within from has_from) (within to has_to),
    )
