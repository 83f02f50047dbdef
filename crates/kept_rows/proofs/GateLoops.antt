-- What loops over the lanes of gates keep.
use Rattle.std.proofs.Common.{◌≡◌, ◌≢◌, ℕ, ◌+◌, ◌-◌, ◌<◌, ◌≤◌, ◌↔◌, Bool, List, [], ◌∷◌, ◌++◌, length, get_or, set, slice_index_or, All, Contains, bit_or, slice_index, inl, inr, refl, sym, ap, subst, ◌∙◌, arith, get_or-set_same, get_or-set_other}
use Rattle.std.proofs.lemmas.Bool.{cases_lt, cases_eq}
use Rattle.std.proofs.lemmas.List.{get_or_default}
use Rattle.std.proofs.Math.ListN.{length-set}
use Rattle.std.proofs.lemmas.List.Elements.{Contains-append_left, Contains-push, All-push}
use Rattle.moves.specs.declared.Cell.{Cell}
use Rattle.moves.specs.declared.Move.{Move}
use Rattle.moves.specs.MoveSets.{Has}
use Rattle.moves.proofs.MovesInSets.{Has-none, Has-join}
use Rattle.lane_rows.specs.Tables.{edges_of, end_of}
use Rattle.lane_rows.specs.Equations.{lane_of}
use Rattle.kept_rows.specs.declared.classes.Class.{Class}
use Rattle.kept_rows.specs.Gaps.{past}
use Rattle.kept_rows.specs.Targets.{IsAmong}
use Rattle.kept_rows.specs.declared.verdict.Verdict.{Verdict}
use Rattle.kept_rows.specs.declared.verdict.Verdict.TheVariants.{Lost, Kept}
use Rattle.kept_rows.specs.Staying.{AllStay}
use Rattle.kept_rows.specs.Verdicts.{Holds, AreJudged, AreSurveyed}
use Rattle.kept_rows.specs.Pairs.{Searched, IsFirstByKeys, AreFirstByKeys}
use Rattle.kept_rows.specs.Gates.{IsRepeated, IsByLeast, IsClassKept, IsClassed, AreClasses, AreMore, IsLow, IsOfClass, LeadsBack, LeadOnlyBack, AgreesAtGates, AreGateKeys, KeepsJudged}

-- what it costs to go by a lane
abbrev pub sum_at : List ℕ → List ℕ → ℕ → ℕ
sum_at there onward lane = slice_index there lane + slice_index onward lane

-- ---- the least sum

-- the sum is the least of all lanes
pub record IsLeastSum (there onward : List ℕ) (sum : ℕ) : Type 0 where
  pub least : (lane : ℕ) → lane < 15 → sum ≤ slice_index there lane + slice_index onward lane
  pub lane : ℕ
  pub early : lane < 15
  pub attained : sum ≡ slice_index there lane + slice_index onward lane

-- the sum is the least of the first lanes
pub record IsLeastTo (there onward : List ℕ) (upto sum : ℕ) : Type 0 where
  pub least : (lane : ℕ) → lane < upto → sum ≤ sum_at there onward lane
  pub lane : ℕ
  pub early : lane < 15
  pub attained : sum ≡ sum_at there onward lane

module _ (there onward : List ℕ) where
  pub least_first : (sum : ℕ) → sum ≡ sum_at there onward 0 → IsLeastTo there onward 1 sum
  least_first sum e = record {
    least = λ lane l. (let is : lane ≡ 0 = omega arith in omega (arith, ap (sum_at there onward) is));
    lane = 0;
    early = omega arith;
    attained = e;
  }

  pub least_less : (upto sum more : ℕ) → upto < 15 → IsLeastTo there onward upto sum → more ≡ sum_at there onward upto → more < sum → IsLeastTo there onward (upto + 1) more
  least_less upto sum more early p e less = record {
    least = λ lane l. elim (cases_eq lane upto) [
      | inl same ↦ omega (arith, ap (sum_at there onward) same)
      | inr other ↦ omega (arith, p.least lane (omega arith))
    ];
    lane = upto;
    early = early;
    attained = e;
  }

  pub least_still : (upto sum more : ℕ) → IsLeastTo there onward upto sum → more ≡ sum_at there onward upto → sum ≤ more → IsLeastTo there onward (upto + 1) sum
  least_still upto sum more p e most = record {
    least = λ lane l. elim (cases_eq lane upto) [
      | inl same ↦ omega (arith, ap (sum_at there onward) same)
      | inr other ↦ p.least lane (omega arith)
    ];
    lane = p.lane;
    early = p.early;
    attained = p.attained;
  }

  -- behind so many lanes the sum is that of the last of these
  sum_repeated : (count : ℕ) → IsRepeated count there → IsRepeated count onward → (lane : ℕ) → count ≤ lane → lane < 15 → sum_at there onward lane ≡ sum_at there onward (count - 1)
  sum_repeated count there_is onward_is lane late l = omega (arith, there_is.same lane late l, onward_is.same lane late l)

  pub least_all : (upto sum count : ℕ) → IsRepeated count there → IsRepeated count onward → IsLeastTo there onward upto sum → count ≤ upto → IsLeastSum there onward sum
  least_all upto sum count there_is onward_is p all = record {
    least = λ lane l. elim (cases_lt lane count) [
      | inl early ↦ p.least lane (omega (arith, early, all))
      | inr late ↦ omega (arith, sum_repeated count there_is onward_is lane late l, p.least (count - 1) (omega (arith, there_is.some, all)))
    ];
    lane = p.lane;
    early = p.early;
    attained = p.attained;
  }

  -- ---- the moves by the lanes that have the sum

  -- the set has the moves of those of the first lanes that have the sum
  pub record AreJoined (sets : List ℕ) (sum upto set : ℕ) : Type 0 where
    pub each : (move : Move) → Has set move ↔ ((lane : ℕ) × (lane < upto) × (sum_at there onward lane ≡ sum) × Has (slice_index sets lane) move)

  module _ (sets : List ℕ) (sum : ℕ) where
    pub joined_first : sum ≡ sum_at there onward 0 → AreJoined sets sum 1 (slice_index sets 0)
    joined_first e = record {
      each = λ move. (λ h. (0, omega arith, sym e, h), λ h. let first : h.0 ≡ 0 = (let l = h.1 in omega arith) in subst (λ k. Has (slice_index sets k) move) first h.3);
    }

    -- a lesser sum than all before
    pub joined_anew : (upto former : ℕ) → IsLeastTo there onward upto former → sum < former → sum ≡ sum_at there onward upto → AreJoined sets sum (upto + 1) (slice_index sets upto)
    joined_anew upto former p less e = record {
      each = λ move. (
        λ h. (upto, omega arith, sym e, h),
        λ h. elim (cases_eq h.0 upto) [
          | inl same ↦ subst (λ k. Has (slice_index sets k) move) same h.3
          | inr other ↦ absurd (let l = h.1 in let is = h.2 in let most = p.least h.0 (omega arith) in omega arith)
        ],
      );
    }

    pub joined_more : (upto set : ℕ) → AreJoined sets sum upto set → sum_at there onward upto ≡ sum → AreJoined sets sum (upto + 1) (bit_or set (slice_index sets upto))
    joined_more upto set p e = record {
      each = λ move.
          let join = Has-join set (slice_index sets upto) move in (
            λ h. elim (join.0 h) [
              | inl before ↦ let at = (p.each move).0 before in (at.0, (let l = at.1 in omega arith), at.2, at.3)
              | inr here ↦ (upto, omega arith, e, here)
            ],
            λ h. elim (cases_eq h.0 upto) [
              | inl same ↦ join.1 (inr (subst (λ k. Has (slice_index sets k) move) same h.3))
              | inr other ↦ join.1 (inl ((p.each move).1 (h.0, (let l = h.1 in omega arith), h.2, h.3)))
            ],
          );
    }

    pub joined_still : (upto set : ℕ) → AreJoined sets sum upto set → sum_at there onward upto ≢ sum → AreJoined sets sum (upto + 1) set
    joined_still upto set p apart = record {
      each = λ move. (
        λ h. (let at = (p.each move).0 h in (at.0, (let l = at.1 in omega arith), at.2, at.3)),
        λ h. elim (cases_eq h.0 upto) [
          | inl same ↦ absurd (apart (ap (sum_at there onward) (sym same) ∙ h.2))
          | inr other ↦ (p.each move).1 (h.0, (let l = h.1 in omega arith), h.2, h.3)
        ],
      );
    }

    pub joined_all : (upto set : ℕ) → IsRepeated upto there → IsRepeated upto onward → IsRepeated upto sets → AreJoined sets sum upto set → IsLeastSum there onward sum → (move : Move) → Has set move ↔ IsByLeast there onward sets move
    joined_all upto set there_is onward_is sets_are p least move = (
      λ h.
          (let at = (p.each move).0 h in
          (at.0, record { early = (let l = at.1 in omega (arith, there_is.few)); least = λ other l. (let e = at.2 in let m = least.least other l in omega arith) }, at.3)),
      λ h.
          (let most = h.1.least least.lane least.early in
          let least_here = least.least h.0 h.1.early in
          let attained = least.attained in
          elim (cases_lt h.0 upto) [
            | inl early ↦ (p.each move).1 (h.0, early, omega arith, h.2)
            | inr late ↦ (p.each move).1 (
              upto - 1,
              omega (arith, there_is.some),
              omega (arith, sum_repeated upto there_is onward_is h.0 late h.1.early),
              subst (λ set. Has set move) (sets_are.same h.0 late h.1.early) h.2,
            )
          ]),
    )

-- the least sum of the first lanes, and the moves by those that have it
pub record IsBestTo (there onward sets : List ℕ) (upto least set : ℕ) : Type 0 where
  pub is_least : IsLeastTo there onward upto least
  pub joined : AreJoined there onward sets least upto set

module _ (there onward sets : List ℕ) where
  pub best_first : (sum : ℕ) → sum ≡ sum_at there onward 0 → IsBestTo there onward sets 1 sum (slice_index sets 0)
  best_first sum e = record { is_least = least_first there onward sum e; joined = joined_first there onward sets sum e }

  pub best_less : (upto least set sum : ℕ) → upto < 15 → IsBestTo there onward sets upto least set → sum ≡ sum_at there onward upto → sum < least → IsBestTo there onward sets (upto + 1) sum (slice_index sets upto)
  best_less upto least set sum early p e less = record {
    is_least = least_less there onward upto least sum early p.is_least e less;
    joined = joined_anew there onward sets sum upto least p.is_least less e;
  }

  pub best_same : (upto least set : ℕ) → IsBestTo there onward sets upto least set → sum_at there onward upto ≡ least → IsBestTo there onward sets (upto + 1) least (bit_or set (slice_index sets upto))
  best_same upto least set p same = record {
    is_least = least_still there onward upto least _ p.is_least refl (omega (arith, same));
    joined = joined_more there onward sets least upto set p.joined same;
  }

  pub best_still : (upto least set : ℕ) → IsBestTo there onward sets upto least set → least < sum_at there onward upto → IsBestTo there onward sets (upto + 1) least set
  best_still upto least set p more = record {
    is_least = least_still there onward upto least _ p.is_least refl (omega (arith, more));
    joined = joined_still there onward sets least upto set p.joined (λ same. absurd (omega (arith, same, more)));
  }

  pub best_all : (upto least set : ℕ) → IsRepeated upto there → IsRepeated upto onward → IsRepeated upto sets → IsBestTo there onward sets upto least set → (move : Move) → Has set move ↔ IsByLeast there onward sets move
  best_all upto least set there_is onward_is sets_are p =
      joined_all there onward sets least upto set there_is onward_is sets_are p.joined (least_all there onward upto least upto there_is onward_is p.is_least (omega arith))

-- ---- one set for both lists

pub kept_if_one : (there sets : List ℕ) (class : Class) (a b : ℕ) → ((move : Move) → Has a move ↔ IsByLeast there class.whole sets move) → ((move : Move) → Has b move ↔ IsByLeast there class.part sets move)
    → a ≡ b → IsClassKept there sets class
kept_if_one there sets class a b over_whole over_part same move = (
  λ h. (over_part move).0 (subst (λ s. Has s move) same ((over_whole move).1 h)),
  λ h. (over_whole move).0 (subst (λ s. Has s move) (sym same) ((over_part move).1 h)),
)

-- ---- all of a list

module _ {X : Type 0} (P : X → Type 0) (xs : List X) where
  -- the first of a list, whatever is read behind its end
  pub record AllTo (upto : ℕ) : Type 0 where
    pub each : (k : ℕ) (d : X) → k < upto → P (get_or xs k d)

  pub all_none : AllTo 0
  all_none = record { each = λ k d l. absurd (omega arith) }

  pub all_more : (upto : ℕ) (d : X) → upto < length xs → AllTo upto → P (get_or xs upto d) → AllTo (upto + 1)
  all_more upto d within p here = record {
    each = λ k e l. elim (cases_eq k upto) [
      | inl same ↦ subst (λ i. P (get_or xs i e)) (sym same) (subst P (get_or_default xs upto d e within) here)
      | inr other ↦ p.each k e (omega arith)
    ];
  }

  pub all_all : (upto : ℕ) → AllTo upto → length xs ≤ upto → All P xs
  all_all upto p all k d l = p.each k d (omega arith)

-- ---- classes of the first places

-- the classes of the first places
pub record AreClassesTo (whole part : Searched) (gaps : List ℕ) (side : List Bool) (upto : ℕ) (classes : List Class) : Type 0 where
  pub each : (place : ℕ) → place < upto → IsClassed whole part gaps side classes place
  pub low : All IsLow classes

module _ (whole part : Searched) (gaps : List ℕ) (side : List Bool) where
  pub classes_none : AreClassesTo whole part gaps side 0 []
  classes_none = record { each = λ place l. absurd (omega arith); low = λ k d l. absurd (omega arith) }

  pub classes_more : (upto : ℕ) (old new : List Class) → AreClassesTo whole part gaps side upto old → AreMore old new → IsClassed whole part gaps side new upto → AreClassesTo whole part gaps side (upto + 1) new
  classes_more upto old new p more here = record {
    each = λ place l. elim (cases_eq place upto) [
      | inl same ↦ subst (IsClassed whole part gaps side new) (sym same) here
      | inr other ↦ λ off none.
          let (class, of_class, known) = p.each place (omega arith) off none in
          (class, of_class, elim known [ inl one ↦ inl one | inr has ↦ inr (more.kept class has) ])
    ];
    low = more.low p.low;
  }

  pub classes_all : (upto : ℕ) (classes : List Class) → AreClassesTo whole part gaps side upto classes → length part.cells ≤ upto → AreClasses whole part gaps side classes
  classes_all upto classes p all = record { each = λ place l. p.each place (omega arith); low = p.low }

  pub classed_last : (place : ℕ) (class : Class) (old new : List Class) → IsOfClass whole part gaps place class → new ≡ old ++ class ∷ [] → IsClassed whole part gaps side new place
  classed_last place class old new of_class is = λ off none. (class, of_class, inr (subst (λ list. Contains list class) (sym is) (Contains-push old class)))

module _ (whole part : Searched) (gaps : List ℕ) where
  low_of_class : (place : ℕ) (class : Class) → IsOfClass whole part gaps place class → IsLow class
  low_of_class place class of_class = record {
    whole = λ lane l. omega (arith, of_class.even_whole.each lane l, of_class.over_whole.low lane l);
    part = λ lane l. omega (arith, of_class.even_part.each lane l, of_class.over_part.low lane l);
  }

  pub more_by_one : (place : ℕ) (class : Class) (old new : List Class) → IsOfClass whole part gaps place class → new ≡ old ++ class ∷ [] → AreMore old new
  more_by_one place class old new of_class is = record {
    kept = λ other has. subst (λ list. Contains list other) (sym is) (Contains-append_left old (class ∷ []) other has);
    low = λ all. subst (All IsLow) (sym is) (All-push IsLow old class all (low_of_class place class of_class));
  }

pub more_of_none : (classes : List Class) → AreMore classes classes
more_of_none classes = record { kept = λ class has. has; low = λ all. all }

-- ---- a source at the gates

pub agrees : (whole part : Searched) (gaps : List ℕ) (place there : ℕ) (keys keys' sets sets' : List ℕ) → there ≡ past gaps place → (IsAmong part.tile.sources 15 place → ⊥) → AreGateKeys whole there keys
    → ((lane : ℕ) → slice_index keys' lane ≡ lane_of part.tile.keys lane place) → ((lane : ℕ) → lane < 15 → slice_index keys lane ≡ slice_index keys' lane)
    → AreFirstByKeys whole there sets → AreFirstByKeys part place sets' → ((lane : ℕ) → lane < 15 → slice_index sets lane ≡ slice_index sets' lane) → AgreesAtGates whole part gaps place keys sets
agrees whole part gaps place there keys keys' sets sets' is none over_whole over_part same_keys by_whole by_part same_sets = record {
  apart = none;
  keys_whole = subst (λ p. AreGateKeys whole p keys) is over_whole;
  keys_part = record { each = λ lane l. same_keys lane l ∙ over_part lane; low = over_whole.low };
  first_whole = λ lane l. subst (λ p. IsFirstByKeys whole.near (lane_of whole.tile.keys lane) p (slice_index sets lane)) is (by_whole lane (omega arith));
  first_part = λ lane l. subst (IsFirstByKeys part.near (lane_of part.tile.keys lane) place) (sym (same_sets lane l)) (by_part lane (omega arith));
}

-- ---- moves from the side

pub leads_read : (near : List (List ℕ)) (gaps : List ℕ) (count place there : ℕ) (side : List Bool) (gates edges : List ℕ) → there ≡ past gaps place → edges ≡ edges_of near there → length near ≡ count + length gaps
    → ((move : Move) → end_of edges move < count + length gaps → LeadsBack gaps count side gates (end_of edges move)) → LeadOnlyBack near gaps count side gates place
leads_read near gaps count place there side gates edges is read size back move of_side inside =
    let edges_are : edges ≡ edges_of near (past gaps place) = read ∙ ap (edges_of near) is in
    subst (λ e. LeadsBack gaps count side gates (end_of e move)) edges_are (back move (subst (λ n. end_of edges move < n) size (subst (λ e. end_of e move < length near) (sym edges_are) inside)))

-- ---- verdicts

module _ (whole part : List Cell) where
  pub judged_still : (verdicts : List Verdict) → KeepsJudged whole part verdicts verdicts
  judged_still verdicts ball count judged = judged

  pub judged_further : (former verdicts later : List Verdict) → KeepsJudged whole part former verdicts → KeepsJudged whole part verdicts later → KeepsJudged whole part former later
  judged_further former verdicts later first next ball count judged = next ball count (first ball count judged)

  pub judged_more : (verdicts later : List Verdict) (place : ℕ) → later ≡ set verdicts place Kept → place < length verdicts → AllStay whole part place → KeepsJudged whole part verdicts later
  judged_more verdicts later place is inside stays ball count now = subst (AreJudged whole part ball count) (sym is) (record {
    size = length-set verdicts place Kept ∙ now.size;
    each = λ from. elim (cases_eq from place) [
      | inl same ↦
          subst (λ n. Holds whole part ball count n (slice_index_or (set verdicts place Kept) n Lost)) (sym same)
          (subst (Holds whole part ball count place) (sym (get_or-set_same verdicts place Kept Lost inside)) stays)
      | inr other ↦ subst (Holds whole part ball count from) (sym (get_or-set_other verdicts place from Kept Lost other)) (now.each from)
    ];
  })

-- what was surveyed stays so with later verdicts
pub surveyed_on : (whole part : List Cell) (gaps sources : List ℕ) (sets : List (List ℕ)) (ball : List ℕ) (former later : List Verdict)
    → AreSurveyed whole part gaps sources sets ball former → KeepsJudged whole part former later → AreSurveyed whole part gaps sources sets ball later
surveyed_on whole part gaps sources sets ball former later are keeps = record {
  cells = are.cells;
  numbered = are.numbered;
  inside = are.inside;
  known = are.known;
  places = are.places;
  judged = keeps ball (length ball) are.judged;
}
