-- What pairs of tiles begin with, and what is known after each.
use Rattle.std.proofs.Common.{◌≡◌, ℕ, ◌+◌, ◌<◌, ◌≤◌, List, [], ◌∷◌, ◌++◌, length, get_or, slice_index, inl, inr, refl, sym, ap, subst, ◌∙◌, arith, replicate}
use Rattle.std.specs.Prelude.{slice_index_or}
use Rattle.std.proofs.lemmas.Bool.{cases_lt, cases_eq}
use Rattle.std.proofs.lemmas.List.{get_or_push, length_push, get_or_append_left, get_or_past, length-replicate, get_or-replicate}
use Rattle.moves.specs.declared.Cell.{Cell}
use Rattle.moves.specs.FirstSetLists.{cell_of}
use Rattle.row_store.specs.Comps.{Comp, IsComp}
use Rattle.lane_rows.specs.Tables.{AreNear, IsMutual, IsNumbered}
use Rattle.kept_rows.specs.declared.verdict.Verdict.{Verdict}
use Rattle.kept_rows.specs.declared.verdict.Verdict.TheVariants.{Lost, Open, Kept}
use Rattle.kept_rows.specs.Gaps.{IsPart}
use Rattle.kept_rows.specs.Targets.{IsAmong, ArePlaces, AreTargets, AreMoved, AreGapLanes}
use Rattle.kept_rows.specs.Pairs.{Searched, CanBeSearched, IsPair}
use Rattle.kept_rows.specs.Staying.{AllStay, IsFirstSet, AreFirstSetsTo, AreFirstSetsOfAll, AreSetsToGaps, AreSetsToGapsOfAll, AreLastSets}
use Rattle.kept_rows.specs.Verdicts.{Holds, AreJudged, AreSurveyed}
use Rattle.kept_rows.proofs.Bits.{no_bits}
use Rattle.kept_rows.proofs.Gaps.{gap_inside, past_inside}

-- the cells of a component can be numbered
pub numbered_of : (comp : Comp) → IsComp comp → IsNumbered comp.cells
numbered_of comp is = record {
  once = is.once;
  columns = λ k d l. (is.on_map k d l).column;
  rows = λ k d l. (is.on_map k d l).row;
  few = is.few;
}

-- a side can be searched again
pub can_still : (before after : Searched) → CanBeSearched before → after.cells ≡ before.cells → after.near ≡ before.near → after.tile.count ≡ before.tile.count → CanBeSearched after
can_still before after can cells near count = record {
  numbered = subst IsNumbered (sym cells) can.numbered;
  edges = subst (λ c. AreNear c after.near) (sym cells) (subst (AreNear before.cells) (sym near) can.edges);
  pairs = subst IsMutual (sym near) can.pairs;
  room = count ∙ can.room ∙ ap length (sym cells);
}

module _ (whole part : List Cell) (gaps : List ℕ) (is : IsPart whole part gaps) (sources moved : List ℕ) (are : AreMoved gaps sources moved) (inside : (lane : ℕ) → lane < 16 → slice_index sources lane < length part) where
  -- the sources of the longer list are among its cells
  pub moved_inside : (lane : ℕ) → lane < 16 → slice_index moved lane < length whole
  moved_inside lane l = elim (cases_lt lane 15) [
    | inl early ↦ subst (λ p. p < length whole) (sym (are.same lane early)) (past_inside whole part gaps is (slice_index sources lane) (inside lane l))
    | inr late ↦
        let last : lane ≡ 15 = omega arith in
        subst (λ p. p < length whole) (sym (ap (slice_index moved) last ∙ are.last)) (gap_inside whole part gaps is 0 is.some)
  ]

-- ---- the first sets from all cells, one after the other

pub record AreSetsTo (whole part : List Cell) (gaps sources : List ℕ) (upto : ℕ) (sets : List (List ℕ)) : Type 0 where
  pub size : length sets ≡ upto
  pub each : (from : ℕ) → from < upto → (IsAmong sources 15 from → ⊥) → AreFirstSetsTo whole part gaps from sources (get_or sets from [])

module _ (whole part : List Cell) (gaps sources : List ℕ) where
  pub sets_none : AreSetsTo whole part gaps sources 0 []
  sets_none = record { size = refl; each = λ from l. absurd (omega arith) }

  pub sets_more : (upto : ℕ) (sets : List (List ℕ)) (one : List ℕ) → AreSetsTo whole part gaps sources upto sets → ((IsAmong sources 15 upto → ⊥) → AreFirstSetsTo whole part gaps upto sources one)
      → AreSetsTo whole part gaps sources (upto + 1) (sets ++ one ∷ [])
  sets_more upto sets one are first = record {
    size = omega (arith, length_push sets one, are.size);
    each = λ from l apart. elim (cases_eq from upto) [
      | inl same ↦
          subst (AreFirstSetsTo whole part gaps from sources) (sym (get_or_push sets one [] from (are.size ∙ sym same)))
          (subst (λ p. AreFirstSetsTo whole part gaps p sources one) (sym same) (first (subst (λ p. IsAmong sources 15 p → ⊥) same apart)))
      | inr other ↦ subst (AreFirstSetsTo whole part gaps from sources) (sym (get_or_append_left sets (one ∷ []) [] from (omega (arith, are.size)))) (are.each from (omega arith) apart)
    ];
  }

  pub sets_all : (upto : ℕ) (sets : List (List ℕ)) → AreSetsTo whole part gaps sources upto sets → length part ≤ upto → AreFirstSetsOfAll whole part gaps sources sets
  sets_all upto sets are l = record { each = λ from inside apart. are.each from (omega arith) apart }

-- ---- the first sets to the cells of the gaps

-- the last sets of the first lists
pub record AreLastTo (sets : List (List ℕ)) (upto : ℕ) (own : List (List ℕ)) : Type 0 where
  pub size : length own ≡ upto
  pub each : (place : ℕ) → place < upto → slice_index (get_or own place []) 0 ≡ slice_index (get_or sets place []) 15

module _ (sets : List (List ℕ)) where
  pub last_none : AreLastTo sets 0 []
  last_none = record { size = refl; each = λ place l. absurd (omega arith) }

  pub last_more : (upto : ℕ) (own : List (List ℕ)) (lanes : List ℕ) → AreLastTo sets upto own → slice_index lanes 0 ≡ slice_index (get_or sets upto []) 15 → AreLastTo sets (upto + 1) (own ++ lanes ∷ [])
  last_more upto own lanes to is = record {
    size = omega (arith, length_push own lanes, to.size);
    each = λ place l. elim (cases_eq place upto) [
      | inl same ↦ ap (λ list. slice_index list 0) (get_or_push own lanes [] place (to.size ∙ sym same)) ∙ is ∙ ap (λ k. slice_index (get_or sets k []) 15) (sym same)
      | inr other ↦ ap (λ list. slice_index list 0) (get_or_append_left own (lanes ∷ []) [] place (omega (arith, to.size))) ∙ to.each place (omega arith)
    ];
  }

  pub last_all : (upto : ℕ) (own : List (List ℕ)) → AreLastTo sets upto own → length sets ≤ upto → upto ≤ length sets → AreLastSets sets own
  last_all upto own to all most = record {
    each = λ place. elim (cases_lt place upto) [
      | inl early ↦ to.each place early
      | inr late ↦
          ap (λ list. slice_index list 0) (get_or_past own place [] (omega (arith, to.size)))
          ∙ sym (ap (λ list. slice_index list 15) (get_or_past sets place [] (omega arith)))
    ];
  }

-- the first sets from the first cells
pub record AreOwnTo (whole part : List Cell) (gaps : List ℕ) (upto : ℕ) (own : List (List ℕ)) : Type 0 where
  pub size : length own ≡ upto
  pub each : (from : ℕ) → from < upto → AreSetsToGaps whole part gaps from (get_or own from [])

module _ (whole part : List Cell) (gaps : List ℕ) where
  pub own_none : AreOwnTo whole part gaps 0 []
  own_none = record { size = refl; each = λ from l. absurd (omega arith) }

  pub own_more : (upto : ℕ) (own : List (List ℕ)) (one : List ℕ) → AreOwnTo whole part gaps upto own → AreSetsToGaps whole part gaps upto one → AreOwnTo whole part gaps (upto + 1) (own ++ one ∷ [])
  own_more upto own one to here = record {
    size = omega (arith, length_push own one, to.size);
    each = λ from l. elim (cases_eq from upto) [
      | inl same ↦ subst (AreSetsToGaps whole part gaps from) (sym (get_or_push own one [] from (to.size ∙ sym same))) (subst (λ p. AreSetsToGaps whole part gaps p one) (sym same) here)
      | inr other ↦ subst (AreSetsToGaps whole part gaps from) (sym (get_or_append_left own (one ∷ []) [] from (omega (arith, to.size)))) (to.each from (omega arith))
    ];
  }

  pub own_all : (upto : ℕ) (own : List (List ℕ)) → AreOwnTo whole part gaps upto own → length part ≤ upto → (sources : List ℕ) → AreSetsToGapsOfAll whole part gaps sources own
  own_all upto own to all sources = record { each = λ from inside apart. to.each from (omega arith) }

  -- of one gap the last lane tells
  pub own_of_last : (sources : List ℕ) (sets own : List (List ℕ)) → length gaps ≡ 1 → AreFirstSetsOfAll whole part gaps sources sets → AreLastSets sets own → AreSetsToGapsOfAll whole part gaps sources own
  own_of_last sources sets own one known last = record {
    each = λ from inside apart. record {
      each = λ number l.
          let first : number ≡ 0 = omega arith in
          subst (λ n. IsFirstSet whole (cell_of part from) (cell_of whole (slice_index gaps n)) (slice_index (slice_index_or own from []) n)) (sym first)
          (subst (IsFirstSet whole (cell_of part from) (cell_of whole (slice_index gaps 0))) (sym (last.each from)) (known.each from inside apart).last);
    };
  }

  -- the lanes of all gaps
  pub lanes_of_gaps : IsPart whole part gaps → (lanes : List ℕ) → ((lane : ℕ) → lane < 16 → lane < length gaps → slice_index lanes lane ≡ slice_index gaps lane)
      → ((lane : ℕ) → lane < 16 → length gaps ≤ lane → slice_index lanes lane ≡ slice_index gaps 0) → AreGapLanes whole gaps lanes
  lanes_of_gaps is lanes same others = record {
    same = λ number l. same number (omega (arith, is.few)) l;
    inside = λ lane l. elim (cases_lt lane (length gaps)) [
      | inl early ↦ subst (λ p. p < length whole) (sym (same lane l early)) (gap_inside whole part gaps is lane early)
      | inr late ↦ subst (λ p. p < length whole) (sym (others lane l late)) (gap_inside whole part gaps is 0 is.some)
    ];
  }

-- ---- verdicts

-- nothing is known yet
pub judged_begun : (whole part : List Cell) (ball : List ℕ) (count : ℕ) → count ≡ length part → AreJudged whole part ball 0 (replicate count (Open 0))
judged_begun whole part ball count size = record {
  size = length-replicate count (Open 0) ∙ size;
  each = λ from. elim (cases_lt from count) [
    | inl early ↦ subst (Holds whole part ball 0 from) (sym (get_or-replicate count from (Open 0) Lost early)) (record { first = λ index l. absurd (omega arith); cost = λ index bit. absurd (no_bits index bit) })
    | inr late ↦ subst (Holds whole part ball 0 from) (sym (get_or_past (replicate count (Open 0)) from Lost (omega (arith, length-replicate count (Open 0))))) tt
  ];
}

-- ---- what is known after each pair

pub surveyed_first : (whole part : Searched) (gaps : List ℕ) (count : ℕ) (sources : List ℕ) (sets : List (List ℕ)) (ball : List ℕ) (verdicts : List Verdict) → IsPair whole part gaps → AreTargets part.cells sources count → part.tile.sources ≡ sources
    → AreFirstSetsOfAll whole.cells part.cells gaps part.tile.sources sets → ArePlaces part.cells ball → AreJudged whole.cells part.cells ball (length ball) verdicts
    → AreSurveyed whole.cells part.cells gaps sources sets ball verdicts
surveyed_first whole part gaps count sources sets ball verdicts both targets same known places judged = record {
  cells = both.cells;
  numbered = both.over_whole.can.numbered;
  inside = targets.inside;
  known = subst (λ s. AreFirstSetsOfAll whole.cells part.cells gaps s sets) same known;
  places = places;
  judged = judged;
}

pub surveyed_next : (whole part : List Cell) (gaps sources : List ℕ) (sets : List (List ℕ)) (ball ball' : List ℕ) (verdicts verdicts' : List Verdict) → AreSurveyed whole part gaps sources sets ball verdicts
    → ArePlaces part ball' → AreJudged whole part ball' (length ball') verdicts' → AreSurveyed whole part gaps sources sets ball' verdicts'
surveyed_next whole part gaps sources sets ball ball' verdicts verdicts' found places judged = record {
  cells = found.cells;
  numbered = found.numbered;
  inside = found.inside;
  known = found.known;
  places = places;
  judged = judged;
}

-- the same of equal lists
pub surveyed_over : (whole part whole' part' : List Cell) (gaps gaps' sources : List ℕ) (sets : List (List ℕ)) (ball : List ℕ) (verdicts : List Verdict) → whole' ≡ whole → part' ≡ part → gaps' ≡ gaps
    → AreSurveyed whole part gaps sources sets ball verdicts → AreSurveyed whole' part' gaps' sources sets ball verdicts
surveyed_over whole part whole' part' gaps gaps' sources sets ball verdicts w p g found =
    subst (λ n. AreSurveyed whole' part' n sources sets ball verdicts) (sym g)
    (subst (λ c. AreSurveyed whole' c gaps sources sets ball verdicts) (sym p)
    (subst (λ c. AreSurveyed c part gaps sources sets ball verdicts) (sym w) found))

module _ (whole part : List Cell) (gaps sources : List ℕ) (sets : List (List ℕ)) (ball : List ℕ) (verdicts : List Verdict) (found : AreSurveyed whole part gaps sources sets ball verdicts) (from : ℕ) where
  pub kept_stays : slice_index_or verdicts from Lost ≡ Kept → AllStay whole part from
  kept_stays kept = subst (Holds whole part ball (length ball) from) kept (found.judged.each from)

  pub kept_known : (one : List ℕ) → from < length part → (IsAmong sources 15 from → ⊥) → one ≡ slice_index_or sets from [] → AreFirstSetsTo whole part gaps from sources one
  kept_known one inside apart is = subst (AreFirstSetsTo whole part gaps from sources) (sym is) (found.known.each from inside apart)

-- what is known of the cells of the gaps
pub kept_own : (whole part : List Cell) (gaps sources : List ℕ) (sets : List (List ℕ)) → AreSetsToGapsOfAll whole part gaps sources sets → (from : ℕ) (one : List ℕ) → from < length part → (IsAmong sources 15 from → ⊥)
    → one ≡ slice_index_or sets from [] → AreSetsToGaps whole part gaps from one
kept_own whole part gaps sources sets own from one inside apart is = subst (AreSetsToGaps whole part gaps from) (sym is) (own.each from inside apart)
