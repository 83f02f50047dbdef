-- A source whose first sets and costs to gates are the same over both lists has the same first sets to all places, if
-- it has them to each class of places beyond the gates.
use Rattle.std.proofs.Common.{◌≡◌, ◌≢◌, ℕ, zero, suc, ◌<◌, ◌≤◌, ◌↔◌, Bool, true, false, ◌&&◌, ◌||◌, List, length, All, Contains, slice_index, slice_index_or, Some, inl, inr, refl, sym, ap, subst, ◌∙◌, arith}
use Rattle.std.proofs.lemmas.Bool.{false≢true, cases_Bool, or_cases, or_left, or_right, and_from, cases_eq}
use Rattle.std.proofs.lemmas.List.Elements.{All-contains}
use Rattle.root_cost.specs.Keys.{cost_of_key}
use Rattle.moves.specs.declared.Cell.{Cell}
use Rattle.moves.specs.declared.Move.{Move}
use Rattle.moves.specs.Maps.{Map, is_cell}
use Rattle.moves.specs.MoveSets.{Has}
use Rattle.moves.specs.Moves.{IsLegal}
use Rattle.moves.specs.Paths.{IsLeastCost}
use Rattle.moves.specs.FirstSets.{IsFirstMove}
use Rattle.moves.specs.ComponentLaws.{HasJust}
use Rattle.moves.specs.FirstSetLists.{cell_of}
use Rattle.moves.proofs.Connected.{is_cell-true, is_cell-same}
use Rattle.kept_sources.specs.Parts.{IsPart, IsTakenOut, HaveSameFirst, HaveSameCost}
use Rattle.kept_sources.specs.Gates.{IsApart, AgreesAt, IsGivenByGates}
use Rattle.kept_sources.proofs.Gating.{gates_keep_sides}
use Rattle.kept_sources.proofs.Onward.{gates_give_the_rest}
use Rattle.lane_rows.specs.Equations.{lane_of}
use Rattle.lane_rows.specs.Laws.{IsTableOf}
use Rattle.lane_rows.proofs.Exact.{led, keyed, least_at}
use Rattle.lane_rows.proofs.Indexing.{same_place}
use Rattle.kept_rows.specs.declared.classes.Class.{Class}
use Rattle.kept_rows.specs.Gaps.{past}
use Rattle.kept_rows.specs.Pairs.{Searched, IsSearched}
use Rattle.kept_rows.specs.Staying.{AllStay}
use Rattle.kept_rows.specs.Gates.{IsOfSide, AreGates, IsOfClass, IsSameClass, AreClasses, IsClassKept, AgreesAtGates}
use Rattle.kept_rows.proofs.Gaps.{past_inside, past_same, is_part_of, part_stays}
use Rattle.kept_rows.proofs.ByKeys.{least_to_goal}
use Rattle.kept_rows.proofs.Balls.{among, among-true, among-from}
use Rattle.kept_rows.proofs.Pairs.{first_by_tile, first_stays, cost_stays}
use Rattle.kept_rows.proofs.GateLanes.{IsKeyOf, by_least_lanes, by_least_evenly}

-- ---- marked places as a test of cells

and-true : (x y : Bool) → (x && y) ≡ true → (x ≡ true) × (y ≡ true)
and-true true true h = (refl, refl)
and-true true false h = absurd (false≢true h)
and-true false y h = absurd (false≢true h)

-- whether the cell is a marked one of the first of these
abbrev pub marked_among : (ℕ → Cell) → List Bool → ℕ → Cell → Bool
marked_among cells side zero cell = false
marked_among cells side (suc count) cell = (is_cell cell (cells count) && slice_index_or side count false) || marked_among cells side count cell

pub marked-true : (cells : ℕ → Cell) (side : List Bool) (count : ℕ) (cell : Cell) → marked_among cells side count cell ≡ true
    → (k : ℕ) × (k < count) × (cells k ≡ cell) × IsOfSide side k
marked-true cells side zero cell h = absurd (false≢true h)
marked-true cells side (suc count) cell h = elim (or_cases (is_cell cell (cells count) && slice_index_or side count false) (marked_among cells side count cell) h) [
  | inl here ↦ let both = and-true (is_cell cell (cells count)) (slice_index_or side count false) here in (count, omega arith, is_cell-true cell (cells count) both.0, both.1)
  | inr before ↦ let at = marked-true cells side count cell before in (at.0, (let l = at.1 in omega arith), at.2, at.3)
]

pub marked-from : (cells : ℕ → Cell) (side : List Bool) (count : ℕ) (cell : Cell) (k : ℕ) → k < count → cells k ≡ cell → IsOfSide side k → marked_among cells side count cell ≡ true
marked-from cells side zero cell k l e marked = absurd (omega arith)
marked-from cells side (suc count) cell k l e marked = elim (cases_eq k count) [
  | inl same ↦ or_left (is_cell cell (cells count) && slice_index_or side count false) (marked_among cells side count cell)
      (and_from (is_cell cell (cells count)) (slice_index_or side count false) (is_cell-same cell (cells count) (ap cells (sym same) ∙ e)) (ap (λ n. slice_index_or side n false) (sym same) ∙ marked))
  | inr other ↦ or_right (is_cell cell (cells count) && slice_index_or side count false) (marked_among cells side count cell) (marked-from cells side count cell k (omega arith) e marked)
]

-- ---- the keys of one list

module _ (side : Searched) (searched : IsSearched side) (map : Map) (just : HasJust map side.cells) (lane : ℕ) (early : lane < 16) (inside : slice_index side.tile.sources lane < length side.cells) where
  table_of : IsTableOf map side.cells side.near
  table_of = record { just = just; numbered = searched.can.numbered; edges = searched.can.edges; pairs = searched.can.pairs }

  abbrev source_of : ℕ
  source_of = slice_index side.tile.sources lane

  -- a key is that of the way from the lane's cell
  pub key_from : (place key most : ℕ) → place < length side.cells → key ≡ lane_of side.tile.keys lane place → key ≤ most
      → IsKeyOf map (cell_of side.cells source_of) (cell_of side.cells place) key most
  key_from place key most l is low = record {
    cost = subst (λ k. IsLeastCost map (cell_of side.cells source_of) (cell_of side.cells place) (Some (cost_of_key k))) (sym is)
        (least_at map side.cells side.near source_of (lane_of side.tile.keys lane) (lane_of side.tile.sets lane) table_of searched.can.pairs inside (searched.solved.lanes lane early) place l);
    keyed = rw is (keyed map side.cells side.near source_of (lane_of side.tile.keys lane) (lane_of side.tile.sets lane) table_of searched.can.pairs inside (searched.solved.lanes lane early) place l);
    low = low;
  }

  -- and of the way to it
  pub key_to : (place key most : ℕ) → place < length side.cells → key ≡ lane_of side.tile.keys lane place → key ≤ most
      → IsKeyOf map (cell_of side.cells place) (cell_of side.cells source_of) key most
  key_to place key most l is low = record {
    cost = subst (λ k. IsLeastCost map (cell_of side.cells place) (cell_of side.cells source_of) (Some (cost_of_key k))) (sym is)
        (least_to_goal map side.cells side.near source_of (lane_of side.tile.keys lane) (lane_of side.tile.sets lane) table_of inside (searched.solved.lanes lane early) place l);
    keyed = rw is (keyed map side.cells side.near source_of (lane_of side.tile.keys lane) (lane_of side.tile.sets lane) table_of searched.can.pairs inside (searched.solved.lanes lane early) place l);
    low = low;
  }

-- ---- both lists

module _ (whole part : Searched) (gaps : List ℕ) (side : List Bool) (gates : AreGates whole part gaps side) (map other_map : Map) (just : HasJust map whole.cells) (just_part : HasJust other_map part.cells) where
  is_part : IsPart map other_map
  is_part = is_part_of whole.cells part.cells gaps gates.both.cells map other_map just just_part

  -- a lane's gate
  abbrev gate_at : ℕ → Cell
  gate_at lane = cell_of part.cells (slice_index part.tile.sources lane)

  abbrev is_gate : Cell → Bool
  is_gate = among gate_at 15

  abbrev is_of_side : Cell → Bool
  is_of_side = marked_among (cell_of part.cells) side (length part.cells)

  here_inside : (lane : ℕ) → lane < 15 → slice_index part.tile.sources lane < length part.cells
  here_inside lane l = gates.both.inside lane (omega arith)

  gate_in_whole : (lane : ℕ) → lane < 15 → gate_at lane ≡ cell_of whole.cells (slice_index whole.tile.sources lane)
  gate_in_whole lane l = gates.both.cells.same _ (here_inside lane l) ∙ ap (cell_of whole.cells) (sym (gates.both.moved.same lane l))

  whole_inside : (lane : ℕ) → lane < 15 → slice_index whole.tile.sources lane < length whole.cells
  whole_inside lane l = subst (λ p. p < length whole.cells) (sym (gates.both.moved.same lane l)) (past_inside whole.cells part.cells gaps gates.both.cells _ (here_inside lane l))

  not_taken : (place : ℕ) → place < length part.cells → IsTakenOut map other_map (cell_of part.cells place) → ⊥
  not_taken place l = part_stays whole.cells part.cells gaps gates.both.cells map other_map just just_part place l

  table_whole : IsTableOf map whole.cells whole.near
  table_whole = record { just = just; numbered = gates.both.over_whole.can.numbered; edges = gates.both.over_whole.can.edges; pairs = gates.both.over_whole.can.pairs }

  closed : (from : Cell) (move : Move) (to : Cell) → is_of_side from ≡ true → IsLegal map from move to → is_gate to ≡ false → is_of_side to ≡ true
  closed from move to inside legal none =
      let (p, l, is, marked) = marked-true (cell_of part.cells) side (length part.cells) from inside in
      let there : past gaps p < length whole.cells = past_inside whole.cells part.cells gaps gates.both.cells p l in
      let from_is : from ≡ cell_of whole.cells (past gaps p) = sym is ∙ gates.both.cells.same p l in
      let end =
      led map whole.cells whole.near (slice_index whole.tile.sources 0) (lane_of whole.tile.keys 0) (lane_of whole.tile.sets 0) table_whole gates.both.over_whole.can.pairs (whole_inside 0 (omega arith)) (gates.both.over_whole.solved.lanes 0 (omega arith))
      (past gaps p) move to there (subst (λ c. IsLegal map c move to) from_is legal) in
      let size = gates.both.over_whole.can.edges.whole in
      let back = gates.left.each p l move marked (let e = end.0 in omega arith) in
      let to_is : cell_of part.cells back.place ≡ to = gates.both.cells.same back.place back.within ∙ ap (cell_of whole.cells) back.is ∙ end.1 in
      elim back.known [
        | inl of_side ↦ marked-from (cell_of part.cells) side (length part.cells) to back.place back.within to_is of_side
        | inr lane ↦ absurd (false≢true (sym none ∙ among-from gate_at 15 to lane.index lane.early (ap (cell_of part.cells) lane.is ∙ to_is)))
      ]

  apart : IsApart map other_map is_gate is_of_side
  apart = record {
    closed = closed;
    side_stays = λ cell inside taken.
        let (p, l, is, marked) = marked-true (cell_of part.cells) side (length part.cells) cell inside in
        not_taken p l (subst (IsTakenOut map other_map) (sym is) taken);
    gates_stay = λ cell inside taken.
        let (k, l, is) = among-true gate_at 15 cell inside in
        not_taken (slice_index part.tile.sources k) (here_inside k l) (subst (IsTakenOut map other_map) (sym is) taken);
  }

  module _ (place : ℕ) (there sets : List ℕ) (inside : place < length part.cells) (marked : IsOfSide side place) (agrees : AgreesAtGates whole part gaps place there sets) where
    abbrev source : Cell
    source = cell_of part.cells place

    abbrev source_there : ℕ
    source_there = past gaps place

    source_inside : source_there < length whole.cells
    source_inside = past_inside whole.cells part.cells gaps gates.both.cells place inside

    -- the set of a lane is the first set to its gate, over either list
    first_on_map : (lane : ℕ) → lane < 15 → (move : Move) → Has (slice_index sets lane) move ↔ IsFirstMove map source (gate_at lane) move
    first_on_map lane l move =
        let far_apart : source_there ≢ slice_index whole.tile.sources lane =
        λ same. agrees.apart (record { index = lane; early = l; is = sym (past_same gaps place _ (same ∙ gates.both.moved.same lane l)) }) in
        subst (λ c. Has (slice_index sets lane) move ↔ IsFirstMove map source c move) (sym (gate_in_whole lane l))
        (subst (λ c. Has (slice_index sets lane) move ↔ IsFirstMove map c (cell_of whole.cells (slice_index whole.tile.sources lane)) move) (sym (gates.both.cells.same place inside))
        (first_by_tile whole gates.both.over_whole map just source_there lane source_inside (omega arith) (whole_inside lane l) (slice_index sets lane) far_apart (agrees.first_whole lane l) move))

    -- the key of a lane is that of the way to its gate, over either list
    way_on_map : (lane : ℕ) → lane < 15 → IsKeyOf map source (gate_at lane) (slice_index there lane) 791680330
    way_on_map lane l =
        subst (λ c. IsKeyOf map source c (slice_index there lane) 791680330) (sym (gate_in_whole lane l))
        (subst (λ c. IsKeyOf map c (cell_of whole.cells (slice_index whole.tile.sources lane)) (slice_index there lane) 791680330) (sym (gates.both.cells.same place inside))
        (key_to whole gates.both.over_whole map just lane (omega arith) (whole_inside lane l) source_there (slice_index there lane) 791680330 source_inside (agrees.keys_whole.each lane l) (agrees.keys_whole.low lane l)))

    agrees_at_gates : AgreesAt map other_map is_gate source
    agrees_at_gates = record {
      first = λ to h.
          let (k, l, is) = among-true gate_at 15 to h in
          subst (HaveSameFirst map other_map source) is ((first_stays whole part gaps gates.both place inside k (slice_index sets k) l (agrees.first_whole k l) (agrees.first_part k l)).over map other_map just just_part);
      cost = λ to h.
          let (k, l, is) = among-true gate_at 15 to h in
          subst (HaveSameCost map other_map source) is ((cost_stays whole part gaps gates.both place inside k l (sym (agrees.keys_whole.each k l) ∙ agrees.keys_part.each k l)).over map other_map just just_part);
    }

    source_of_side : is_of_side source ≡ true
    source_of_side = marked-from (cell_of part.cells) side (length part.cells) source place inside refl marked

    source_no_gate : is_gate source ≡ false
    source_no_gate = elim (cases_Bool (is_gate source)) [
      | inr none ↦ none
      | inl yes_it_is ↦
          let (k, l, is) = among-true gate_at 15 source yes_it_is in
          absurd (agrees.apart (record { index = k; early = l; is = same_place part.cells gates.both.over_part.can.numbered.once _ place (here_inside k l) inside is }))
    ]

    module _ (to : ℕ) (to_inside : to < length part.cells) (beyond : IsOfSide side to → ⊥) (class : Class) (of_class : IsOfClass whole part gaps to class) (kept : IsClassKept there sets class) where
      abbrev goal : Cell
      goal = cell_of part.cells to

      goal_beyond : is_of_side goal ≡ false
      goal_beyond = elim (cases_Bool (is_of_side goal)) [
        | inr none ↦ none
        | inl yes_it_is ↦
            let (k, l, is, mark) = marked-true (cell_of part.cells) side (length part.cells) goal yes_it_is in
            absurd (beyond (subst (IsOfSide side) (same_place part.cells gates.both.over_part.can.numbered.once k to l to_inside is) mark))
      ]

      given : IsGivenByGates map map is_gate source goal × IsGivenByGates map other_map is_gate source goal
      given = gates_give_the_rest map other_map is_gate is_of_side source goal is_part apart agrees_at_gates source_of_side source_no_gate goal_beyond

      rest_on_map : (lane : ℕ) → lane < 15 → IsKeyOf map (gate_at lane) goal (slice_index of_class.whole_keys lane) 791680330
      rest_on_map lane l =
          subst (λ c. IsKeyOf map c goal (slice_index of_class.whole_keys lane) 791680330) (sym (gate_in_whole lane l))
          (subst (λ c. IsKeyOf map (cell_of whole.cells (slice_index whole.tile.sources lane)) c (slice_index of_class.whole_keys lane) 791680330) (sym (gates.both.cells.same to to_inside))
          (key_from whole gates.both.over_whole map just lane (omega arith) (whole_inside lane l) (past gaps to) (slice_index of_class.whole_keys lane) 791680330 (past_inside whole.cells part.cells gaps gates.both.cells to to_inside)
          (of_class.over_whole.each lane l) (of_class.over_whole.low lane l)))

      rest_on_part : (lane : ℕ) → lane < 15 → IsKeyOf other_map (gate_at lane) goal (slice_index of_class.part_keys lane) 791680330
      rest_on_part lane l =
          key_from part gates.both.over_part other_map just_part lane (omega arith) (here_inside lane l) to (slice_index of_class.part_keys lane) 791680330 to_inside (of_class.over_part.each lane l) (of_class.over_part.low lane l)

      pub beyond_stays : HaveSameFirst map other_map source goal
      beyond_stays move =
          let on_map = by_least_lanes map map source goal gate_at there of_class.whole_keys way_on_map rest_on_map sets first_on_map given.0 move in
          let on_part = by_least_lanes map other_map source goal gate_at there of_class.part_keys way_on_map rest_on_part sets first_on_map given.1 move in
          let a = by_least_evenly there of_class.whole_keys class.whole of_class.even_whole sets move in
          let b = by_least_evenly there of_class.part_keys class.part of_class.even_part sets move in
          let k = kept move in
          (λ h. on_part.1 (b.1 (k.0 (a.0 (on_map.0 h)))), λ h. on_map.1 (a.1 (k.1 (b.0 (on_part.0 h)))))

    same_kept : (class : Class) → IsSameClass class → IsClassKept there sets class
    same_kept class same move = by_least_evenly there class.whole class.part (record { amount = 0; each = λ lane l. omega (arith, same lane l) }) sets move

    pub stays_to : (classes : List Class) → AreClasses whole part gaps side classes → ((class : Class) → Contains classes class → IsClassKept there sets class)
        → (to : ℕ) → to < length part.cells → HaveSameFirst map other_map source (cell_of part.cells to)
    stays_to classes are kept to l = elim (cases_Bool (slice_index_or side to false)) [
      | inl of_side ↦
          (gates_keep_sides map other_map is_gate is_of_side source is_part apart agrees_at_gates).first (cell_of part.cells to)
          (marked-from (cell_of part.cells) side (length part.cells) (cell_of part.cells to) to l refl of_side)
      | inr beyond ↦ elim (cases_Bool (is_gate (cell_of part.cells to))) [
        | inl gated ↦ agrees_at_gates.first (cell_of part.cells to) gated
        | inr none ↦
            let off : IsOfSide side to → ⊥ = λ h. false≢true (sym beyond ∙ h) in
            let (class, of_class, known) = are.each to l off (λ lane. false≢true (sym none ∙ among-from gate_at 15 (cell_of part.cells to) lane.index lane.early (ap (cell_of part.cells) lane.is))) in
            elim known [
              | inl same ↦ beyond_stays to l off class of_class (same_kept class same)
              | inr has ↦ beyond_stays to l off class of_class (kept class has)
            ]
      ]
    ]

pub gates_keep : (whole part : Searched) (gaps : List ℕ) (side : List Bool) → AreGates whole part gaps side → (classes : List Class) → AreClasses whole part gaps side classes
    → (place : ℕ) (there sets : List ℕ) → place < length part.cells → IsOfSide side place → AgreesAtGates whole part gaps place there sets
    → All (IsClassKept there sets) classes → AllStay whole.cells part.cells place
gates_keep whole part gaps side gates classes are place there sets inside marked agrees kept = record {
  each = λ to l. record { over = λ map other just just_part. stays_to whole part gaps side gates map other just just_part place there sets inside marked agrees classes are (λ class. All-contains (IsClassKept there sets) classes class kept) to l };
}
