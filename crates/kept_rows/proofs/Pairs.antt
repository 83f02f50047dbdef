-- What a pair of tiles tells of one cell: where both have the same set by keys, the first set stays, and where both have
-- the same key, the least cost.
use Rattle.std.proofs.Common.{◌≡◌, ◌≢◌, ℕ, ◌<◌, ◌↔◌, List, length, slice_index, Some, inl, inr, refl, sym, ap, subst, ◌∙◌, arith}
use Rattle.std.proofs.lemmas.Bool.{cases_lt, cases_eq}
use Rattle.root_cost.specs.declared.Cost.{Cost}
use Rattle.root_cost.specs.Keys.{cost_of_key}
use Rattle.moves.specs.declared.Cell.{Cell}
use Rattle.moves.specs.declared.Move.{Move}
use Rattle.moves.specs.Maps.{Map, IsPassable}
use Rattle.moves.specs.MoveSets.{Has}
use Rattle.moves.specs.Paths.{IsLeastCost}
use Rattle.moves.specs.FirstSets.{IsFirstMove}
use Rattle.moves.specs.ComponentLaws.{HasJust}
use Rattle.moves.specs.FirstSetLists.{cell_of}
use Rattle.moves.proofs.LeastCosts.{same_least}
use Rattle.kept_sources.specs.Parts.{HaveSameFirst, HaveSameCost}
use Rattle.lane_rows.specs.Equations.{lane_of}
use Rattle.lane_rows.specs.Laws.{IsTableOf}
use Rattle.lane_rows.proofs.Exact.{one_of_cells}
use Rattle.kept_rows.specs.Gaps.{past, IsPart}
use Rattle.kept_rows.specs.Targets.{IsAmong, AreGapLanes}
use Rattle.kept_rows.specs.Pairs.{Searched, IsSearched, IsPair, IsFirstByKeys, AreFirstByKeys}
use Rattle.kept_rows.specs.Staying.{FirstStays, CostStays, IsFirstSet, AreFirstSetsTo, AreSetsToGaps}
use Rattle.kept_rows.proofs.Gaps.{gap_inside, past_inside, apart_from_gaps, past_same}
use Rattle.kept_rows.proofs.ByKeys.{first_by_keys, least_to_goal}

-- where both maps have a least cost, and it is one
same_costs : (a b : Map) (from to : Cell) (c d : Cost) → c ≡ d → IsLeastCost a from to (Some c) → IsLeastCost b from to (Some d) → HaveSameCost a b from to
same_costs a b from to c d same p q = λ cost. (
  λ h. subst (IsLeastCost b from to) (sym (same_least a from to cost (Some c) h p ∙ ap Some same)) q,
  λ h. subst (IsLeastCost a from to) (sym (same_least b from to cost (Some d) h q ∙ ap Some (sym same))) p,
)

-- from a cell to itself each move is first
same_first_here : (a b : Map) (cell : Cell) → IsPassable a cell → IsPassable b cell → HaveSameFirst a b cell cell
same_first_here a b cell p q move = (λ _. inl (refl, q), λ _. inl (refl, p))

-- a search of a list over a map that has just its cells
table_of : (side : Searched) → IsSearched side → (map : Map) → HasJust map side.cells → IsTableOf map side.cells side.near
table_of side searched map just = record { just = just; numbered = searched.can.numbered; edges = searched.can.edges; pairs = searched.can.pairs }

module _ (side : Searched) (searched : IsSearched side) (map : Map) (just : HasJust map side.cells) (place lane : ℕ) (inside : place < length side.cells) (early : lane < 16)
    (source : slice_index side.tile.sources lane < length side.cells) where
  abbrev goal : ℕ
  goal = slice_index side.tile.sources lane

  -- a set by keys is the first set to a lane's source
  pub first_by_tile : (set : ℕ) → place ≢ goal → IsFirstByKeys side.near (lane_of side.tile.keys lane) place set
      → (move : Move) → Has set move ↔ IsFirstMove map (cell_of side.cells place) (cell_of side.cells goal) move
  first_by_tile set apart keyed move =
      let size = searched.can.edges.whole in
      let first = first_by_keys map side.cells side.near goal (lane_of side.tile.keys lane) (lane_of side.tile.sets lane) (table_of side searched map just) source (searched.solved.lanes lane early)
      place move inside apart in (
        λ has. (let k = (keyed.each move).0 has in first.1 ((let e = k.0 in omega arith), k.1)),
        λ h. (let k = first.0 h in (keyed.each move).1 ((let e = k.0 in omega arith), k.1)),
      )

  -- a key is that of the least cost to a lane's source
  pub least_by_tile : IsLeastCost map (cell_of side.cells place) (cell_of side.cells goal) (Some (cost_of_key (lane_of side.tile.keys lane place)))
  least_by_tile = least_to_goal map side.cells side.near goal (lane_of side.tile.keys lane) (lane_of side.tile.sets lane) (table_of side searched map just) source (searched.solved.lanes lane early) place inside

module _ (whole part : Searched) (gaps : List ℕ) (both : IsPair whole part gaps) where
  abbrev here : ℕ → ℕ
  here lane = slice_index part.tile.sources lane

  abbrev there : ℕ → ℕ
  there lane = slice_index whole.tile.sources lane

  there_inside : (lane : ℕ) → lane < 16 → there lane < length whole.cells
  there_inside lane l = elim (cases_lt lane 15) [
    | inl early ↦ subst (λ p. p < length whole.cells) (sym (both.moved.same lane early)) (past_inside whole.cells part.cells gaps both.cells (here lane) (both.inside lane l))
    | inr last ↦
        let is : lane ≡ 15 = omega arith in
        subst (λ p. p < length whole.cells) (sym (ap there is ∙ both.moved.last)) (gap_inside whole.cells part.cells gaps both.cells 0 both.cells.some)
  ]

  target_is : (lane : ℕ) → lane < 15 → cell_of whole.cells (there lane) ≡ cell_of part.cells (here lane)
  target_is lane l = ap (cell_of whole.cells) (both.moved.same lane l) ∙ sym (both.cells.same (here lane) (both.inside lane (omega arith)))

  module _ (place : ℕ) (inside : place < length part.cells) where
    inside_whole : past gaps place < length whole.cells
    inside_whole = past_inside whole.cells part.cells gaps both.cells place inside

    source_is : cell_of whole.cells (past gaps place) ≡ cell_of part.cells place
    source_is = sym (both.cells.same place inside)

    away : (lane : ℕ) → lane < 15 → place ≢ here lane → past gaps place ≢ there lane
    away lane l apart same = apart (past_same gaps place (here lane) (same ∙ both.moved.same lane l))

    away_from_gap : past gaps place ≢ there 15
    away_from_gap same = apart_from_gaps whole.cells part.cells gaps both.cells place 0 both.cells.some (same ∙ both.moved.last)

    -- the set over the longer list is a first set
    pub set_is_first : (lane set : ℕ) → lane < 15 → place ≢ here lane → set < 256 → IsFirstByKeys whole.near (lane_of whole.tile.keys lane) (past gaps place) set
        → IsFirstSet whole.cells (cell_of part.cells place) (cell_of part.cells (here lane)) set
    set_is_first lane set l apart byte keyed = record {
      byte = byte;
      over = λ map just move.
          subst (λ c. Has set move ↔ IsFirstMove map c (cell_of part.cells (here lane)) move) source_is
          (subst (λ c. Has set move ↔ IsFirstMove map (cell_of whole.cells (past gaps place)) c move) (target_is lane l)
          (first_by_tile whole both.over_whole map just (past gaps place) lane inside_whole (omega arith) (there_inside lane (omega arith)) set (away lane l apart) keyed move));
    }

    pub set_to_gap : (set : ℕ) → set < 256 → IsFirstByKeys whole.near (lane_of whole.tile.keys 15) (past gaps place) set → IsFirstSet whole.cells (cell_of part.cells place) (cell_of whole.cells (slice_index gaps 0)) set
    set_to_gap set byte keyed = record {
      byte = byte;
      over = λ map just move.
          subst (λ c. Has set move ↔ IsFirstMove map c (cell_of whole.cells (slice_index gaps 0)) move) source_is
          (subst (λ p. Has set move ↔ IsFirstMove map (cell_of whole.cells (past gaps place)) (cell_of whole.cells p) move) both.moved.last
          (first_by_tile whole both.over_whole map just (past gaps place) 15 inside_whole (omega arith) (there_inside 15 (omega arith)) set away_from_gap keyed move));
    }

    pub sets_are_first : (sets : List ℕ) → ((lane : ℕ) → slice_index sets lane < 256) → AreFirstByKeys whole (past gaps place) sets → (IsAmong part.tile.sources 15 place → ⊥)
        → AreFirstSetsTo whole.cells part.cells gaps place part.tile.sources sets
    sets_are_first sets bytes keyed apart = record {
      shared = λ lane l. set_is_first lane (slice_index sets lane) l (λ same. apart (record { index = lane; early = l; is = sym same })) (bytes lane) (keyed lane (omega arith));
      last = set_to_gap (slice_index sets 15) (bytes 15) (keyed 15 (omega arith));
    }

    -- equal sets: the first set stays
    pub first_stays : (lane set : ℕ) → lane < 15 → IsFirstByKeys whole.near (lane_of whole.tile.keys lane) (past gaps place) set → IsFirstByKeys part.near (lane_of part.tile.keys lane) place set
        → FirstStays whole.cells part.cells place (here lane)
    first_stays lane set l over_whole over_part = record {
      over = λ map other just just_part.
          elim (cases_eq place (here lane)) [
            | inl same ↦
                let has = one_of_cells part.cells place inside in
                let has_whole = one_of_cells whole.cells (past gaps place) inside_whole in
                subst (λ p. HaveSameFirst map other (cell_of part.cells place) (cell_of part.cells p)) same
                (same_first_here map other (cell_of part.cells place) (subst (IsPassable map) source_is ((just.just_these (cell_of whole.cells (past gaps place))).1 has_whole)) ((just_part.just_these (cell_of part.cells place)).1 has))
            | inr apart ↦ λ move.
                let first =
                subst (λ c. Has set move ↔ IsFirstMove map c (cell_of part.cells (here lane)) move) source_is
                (subst (λ c. Has set move ↔ IsFirstMove map (cell_of whole.cells (past gaps place)) c move) (target_is lane l)
                (first_by_tile whole both.over_whole map just (past gaps place) lane inside_whole (omega arith) (there_inside lane (omega arith)) set (away lane l apart) over_whole move)) in
                let second =
                first_by_tile part both.over_part other just_part place lane inside (omega arith) (both.inside lane (omega arith)) set apart over_part move in
                (λ h. second.0 (first.1 h), λ h. first.0 (second.1 h))
          ];
    }

    -- equal keys: the cost stays
    pub cost_stays : (lane : ℕ) → lane < 15 → lane_of whole.tile.keys lane (past gaps place) ≡ lane_of part.tile.keys lane place → CostStays whole.cells part.cells place (here lane)
    cost_stays lane l e = record {
      over = λ map other just just_part.
          let key : ℕ = lane_of whole.tile.keys lane (past gaps place) in
          let first =
          subst (λ c. IsLeastCost map c (cell_of part.cells (here lane)) (Some (cost_of_key key))) source_is
          (subst (λ c. IsLeastCost map (cell_of whole.cells (past gaps place)) c (Some (cost_of_key key))) (target_is lane l)
          (least_by_tile whole both.over_whole map just (past gaps place) lane inside_whole (omega arith) (there_inside lane (omega arith)))) in
          let second = least_by_tile part both.over_part other just_part place lane inside (omega arith) (both.inside lane (omega arith)) in
          same_costs map other (cell_of part.cells place) (cell_of part.cells (here lane)) (cost_of_key key) (cost_of_key (lane_of part.tile.keys lane place)) (ap cost_of_key e) first second;
    }

-- a tile over the longer list from the cells of all gaps
pub sets_to_gaps : (whole part : Searched) (gaps : List ℕ) → IsPart whole.cells part.cells gaps → IsSearched whole → AreGapLanes whole.cells gaps whole.tile.sources → (place : ℕ) → place < length part.cells
    → (sets : List ℕ) → ((lane : ℕ) → slice_index sets lane < 256) → AreFirstByKeys whole (past gaps place) sets → AreSetsToGaps whole.cells part.cells gaps place sets
sets_to_gaps whole part gaps is searched lanes place inside sets bytes keyed = record {
  each = λ number l.
      let early : number < 16 = omega (arith, is.few) in
      let there : past gaps place < length whole.cells = past_inside whole.cells part.cells gaps is place inside in
      record {
        byte = bytes number;
        over = λ map just move.
            subst (λ c. Has (slice_index sets number) move ↔ IsFirstMove map c (cell_of whole.cells (slice_index gaps number)) move) (sym (is.same place inside))
            (subst (λ p. Has (slice_index sets number) move ↔ IsFirstMove map (cell_of whole.cells (past gaps place)) (cell_of whole.cells p) move) (lanes.same number l)
            (first_by_tile whole searched map just (past gaps place) number there early (lanes.inside number early) (slice_index sets number)
            (λ same. apart_from_gaps whole.cells part.cells gaps is place number l (same ∙ lanes.same number l)) (keyed number early) move));
      };
}
