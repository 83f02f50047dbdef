-- How a pair of tiles tells more of each cell.
use Rattle.std.proofs.Common.{◌≡◌, ℕ, ◌+◌, ◌-◌, ◌<◌, ◌≤◌, ◌⊎◌, Bool, true, List, [], ◌∷◌, ◌++◌, length, get_or, set, slice_index, slice_index_or, inl, inr, refl, sym, ap, subst, ◌∙◌, arith, get_or-set_same, get_or-set_other}
use Rattle.std.specs.Prelude.{IsBitSet}
use Rattle.std.proofs.lemmas.Bool.{cases_eq, cases_lt}
use Rattle.std.proofs.lemmas.List.{get_or_push, length_push, get_or_append_left, get_or_past}
use Rattle.std.proofs.Math.ListN.{length-set}
use Rattle.moves.specs.declared.Cell.{Cell}
use Rattle.lane_rows.specs.Equations.{lane_of}
use Rattle.kept_rows.specs.declared.verdict.Verdict.{Verdict}
use Rattle.kept_rows.specs.declared.verdict.Verdict.TheVariants.{Lost, Open, Kept}
use Rattle.kept_rows.specs.Gaps.{past}
use Rattle.kept_rows.specs.Targets.{IsGrown, ArePlaces, AreTargets, IsRoundGaps, AreMarked}
use Rattle.kept_rows.specs.Pairs.{Searched, IsPair, IsFirstByKeys, AreFirstByKeys}
use Rattle.kept_rows.specs.Staying.{FirstStays, CostStays, AllStay}
use Rattle.kept_rows.specs.Verdicts.{IsOpen, Holds, AreJudged, IsStage}
use Rattle.kept_rows.proofs.Pairs.{first_stays, cost_stays}
use Rattle.kept_rows.proofs.Keeping.{keeps_first}

-- ---- a ball that grows

pub grown_none : (former sources : List ℕ) → IsGrown former sources 0 former
grown_none former sources = record { size = omega arith; before = λ index l. refl; added = λ lane l. absurd (omega arith) }

pub grown_more : (former sources ball : List ℕ) (count one : ℕ) → IsGrown former sources count ball → one ≡ slice_index sources count → IsGrown former sources (count + 1) (ball ++ one ∷ [])
grown_more former sources ball count one g is = record {
  size = omega (arith, length_push ball one, g.size);
  before = λ index l. get_or_append_left ball (one ∷ []) 0 index (omega (arith, g.size)) ∙ g.before index l;
  added = λ lane l. elim (cases_eq lane count) [
    | inl same ↦ get_or_push ball one 0 (length former + lane) (omega (arith, g.size)) ∙ is ∙ ap (slice_index sources) (sym same)
    | inr apart ↦ get_or_append_left ball (one ∷ []) 0 (length former + lane) (omega (arith, g.size)) ∙ g.added lane (omega arith)
  ];
}

module _ (former sources ball : List ℕ) (count : ℕ) (grown : IsGrown former sources count ball) where
  -- where a place of the ball comes from
  pub grown_from : (index : ℕ) → length former ≤ index → index < length ball → slice_index ball index ≡ slice_index sources (index - length former)
  grown_from index l e =
      let same : length former + (index - length former) ≡ index = omega arith in
      ap (slice_index ball) (sym same) ∙ grown.added (index - length former) (omega (arith, grown.size))

  pub places_grown : (cells : List Cell) → ArePlaces cells former → AreTargets cells sources count → length ball ≤ 64 → ArePlaces cells ball
  places_grown cells places targets few = record {
    few = few;
    inside = λ index l. elim (cases_lt index (length former)) [
      | inl early ↦ subst (λ p. p < length cells) (sym (grown.before index early)) (places.inside index early)
      | inr late ↦ subst (λ p. p < length cells) (sym (grown_from index late l)) (targets.inside (index - length former) (omega (arith, grown.size, targets.few)))
    ];
  }

  holds_grown : (whole part : List Cell) (from : ℕ) (verdict : Verdict) → Holds whole part former (length former) from verdict → Holds whole part ball (length former) from verdict
  holds_grown whole part from Lost h = h
  holds_grown whole part from (Open costs) h = record {
    first = λ index l. subst (FirstStays whole part from) (sym (grown.before index l)) (h.first index l);
    cost = λ index bit. let one = h.cost index bit in (one.0, subst (CostStays whole part from) (sym (grown.before index one.0)) one.1);
  }
  holds_grown whole part from Kept h = h

  pub judged_grown : (whole part : List Cell) (verdicts : List Verdict) → AreJudged whole part former (length former) verdicts → AreJudged whole part ball (length former) verdicts
  judged_grown whole part verdicts judged = record { size = judged.size; each = λ from. holds_grown whole part from (slice_index_or verdicts from Lost) (judged.each from) }

  -- the next pair is solved
  pub stage_of : (whole part : Searched) (gaps : List ℕ) (marks : ℕ) (is_round : Bool) → IsPair whole part gaps → AreTargets part.cells sources count → part.tile.sources ≡ sources → ArePlaces part.cells ball
      → (is_round ≡ true → IsRoundGaps whole.cells part.cells gaps ball) → AreMarked part.near ball marks → IsStage whole part gaps ball (length former) marks is_round
  stage_of whole part gaps marks is_round both targets same places round marked = record {
    is_pair = both;
    places = places;
    round = round;
    marked = marked;
    early = omega (arith, grown.size);
    few = omega (arith, grown.size, targets.few);
    lanes = λ index l e. grown_from index l e ∙ ap (λ s. slice_index s (index - length former)) (sym same);
  }

-- the places of the first pair's ball
pub places_first : (cells : List Cell) (sources ball : List ℕ) (count : ℕ) → IsGrown [] sources count ball → AreTargets cells sources count → ArePlaces cells ball
places_first cells sources ball count grown targets =
    places_grown [] sources ball count grown cells (record { few = omega arith; inside = λ index l. absurd (omega arith) }) targets (omega (arith, grown.size, targets.few))

-- ---- one cell

module _ (whole part : Searched) (gaps ball : List ℕ) (former marks : ℕ) (is_round : Bool) (stage : IsStage whole part gaps ball former marks is_round) (place : ℕ) (inside : place < length part.cells) where
  -- what a comparison tells
  pub compared : (costs costs' count there : ℕ) (sets others keys keys' : List ℕ) → IsOpen whole.cells part.cells ball former place costs → count ≡ length ball - former → there ≡ past gaps place
      → AreFirstByKeys whole there sets → AreFirstByKeys part place others → ((lane : ℕ) → lane < count → slice_index sets lane ≡ slice_index others lane)
      → ((lane : ℕ) → slice_index keys lane ≡ lane_of whole.tile.keys lane there) → ((lane : ℕ) → slice_index keys' lane ≡ lane_of part.tile.keys lane place)
      → ((index : ℕ) → IsBitSet costs' index → IsBitSet costs index ⊎ ((former ≤ index) × (index < former + count) × (slice_index keys (index - former) ≡ slice_index keys' (index - former))))
      → IsOpen whole.cells part.cells ball (length ball) place costs'
  compared costs costs' count there sets others keys keys' before size past_is over_whole over_part same_sets key_whole key_part bits = record {
    first = λ index l. elim (cases_lt index former) [
      | inl early ↦ before.first index early
      | inr late ↦
          let lane : ℕ = index - former in
          let low : lane < 15 = omega (arith, stage.few, stage.early) in
          let set_whole : IsFirstByKeys whole.near (lane_of whole.tile.keys lane) (past gaps place) (slice_index sets lane) =
          subst (λ p. IsFirstByKeys whole.near (lane_of whole.tile.keys lane) p (slice_index sets lane)) past_is (over_whole lane (omega arith)) in
          let set_part : IsFirstByKeys part.near (lane_of part.tile.keys lane) place (slice_index sets lane) =
          subst (IsFirstByKeys part.near (lane_of part.tile.keys lane) place) (sym (same_sets lane (omega arith))) (over_part lane (omega arith)) in
          subst (FirstStays whole.cells part.cells place) (sym (stage.lanes index late l)) (first_stays whole part gaps stage.is_pair place inside lane (slice_index sets lane) low set_whole set_part)
    ];
    cost = λ index bit. elim (bits index bit) [
      | inl old ↦ let one = before.cost index old in (omega (arith, one.0, stage.early), one.1)
      | inr new ↦
          let l : index < length ball = omega (arith, new.1, stage.early) in
          let lane : ℕ = index - former in
          let low : lane < 15 = omega (arith, stage.few, stage.early) in
          let key : lane_of whole.tile.keys lane (past gaps place) ≡ lane_of part.tile.keys lane place = ap (lane_of whole.tile.keys lane) (sym past_is) ∙ sym (key_whole lane) ∙ new.2 ∙ key_part lane in
          (l, subst (CostStays whole.cells part.cells place) (sym (stage.lanes index new.0 l)) (cost_stays whole part gaps stage.is_pair place inside lane low key))
    ];
  }

  -- where the ball is round the gaps, and the costs to all cells at its border stay
  pub kept_by_ball : (costs : ℕ) → is_round ≡ true → IsOpen whole.cells part.cells ball (length ball) place costs → ((index : ℕ) → IsBitSet marks index → IsBitSet costs index) → AllStay whole.cells part.cells place
  kept_by_ball costs round open_at all = record {
    each = λ to l. record {
      over = λ map other just just_part.
          keeps_first whole.cells part.cells gaps stage.is_pair.cells part.near stage.is_pair.over_part.can.edges ball stage.places (stage.round round) marks stage.marked place costs open_at all map other just just_part to l;
    };
  }

-- ---- all cells

pub record AreJudgedTo (whole part : List Cell) (ball : List ℕ) (former upto : ℕ) (verdicts : List Verdict) : Type 0 where
  pub size : length verdicts ≡ length part
  pub done : (from : ℕ) → from < upto → Holds whole part ball (length ball) from (get_or verdicts from Lost)
  pub left : (from : ℕ) → upto ≤ from → Holds whole part ball former from (get_or verdicts from Lost)

module _ (whole part : List Cell) (ball : List ℕ) (former : ℕ) where
  pub judged_none : (verdicts : List Verdict) → AreJudged whole part ball former verdicts → AreJudgedTo whole part ball former 0 verdicts
  judged_none verdicts judged = record { size = judged.size; done = λ from l. absurd (omega arith); left = λ from l. judged.each from }

  pub judged_more : (verdicts : List Verdict) (place : ℕ) (verdict : Verdict) → AreJudgedTo whole part ball former place verdicts → place < length verdicts → Holds whole part ball (length ball) place verdict
      → AreJudgedTo whole part ball former (place + 1) (set verdicts place verdict)
  judged_more verdicts place verdict judged l holds = record {
    size = length-set verdicts place verdict ∙ judged.size;
    done = λ from early. elim (cases_eq from place) [
      | inl same ↦ subst (λ p. Holds whole part ball (length ball) p (get_or (set verdicts place verdict) p Lost)) (sym same) (subst (Holds whole part ball (length ball) place) (sym (get_or-set_same verdicts place verdict Lost l)) holds)
      | inr apart ↦ subst (Holds whole part ball (length ball) from) (sym (get_or-set_other verdicts place from verdict Lost apart)) (judged.done from (omega arith))
    ];
    left = λ from late. subst (Holds whole part ball former from) (sym (get_or-set_other verdicts place from verdict Lost (λ same. absurd (omega arith)))) (judged.left from (omega arith));
  }

  pub judged_all : (verdicts : List Verdict) (upto : ℕ) → AreJudgedTo whole part ball former upto verdicts → length verdicts ≤ upto → AreJudged whole part ball (length ball) verdicts
  judged_all verdicts upto judged l = record {
    size = judged.size;
    each = λ from. elim (cases_lt from upto) [
      | inl early ↦ judged.done from early
      | inr late ↦ subst (Holds whole part ball (length ball) from) (sym (get_or_past verdicts from Lost (omega arith))) tt
    ];
  }
