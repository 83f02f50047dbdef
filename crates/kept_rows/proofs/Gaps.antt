-- Places of two lists of cells of which the one has some cells more.
use Rattle.std.proofs.Common.{◌≡◌, ◌≢◌, ℕ, zero, suc, ◌+◌, ◌-◌, ◌<◌, ◌≤◌, ◌⊎◌, Bool, true, List, [], ◌∷◌, length, take, drop, get_or, slice_index, AllPairs, Contains, inl, inr, refl, sym, ap, subst, ◌∙◌, arith}
use Rattle.std.proofs.lemmas.Bool.{cases_lt, cases_eq}
use Rattle.std.proofs.lemmas.Bool.Decides.{nat_tests}
use Rattle.std.proofs.lemmas.List.{drop_more, drop_all}
use Rattle.moves.specs.declared.Cell.{Cell}
use Rattle.moves.specs.Maps.{Map, IsPassable}
use Rattle.moves.specs.ComponentLaws.{HasJust}
use Rattle.moves.specs.FirstSetLists.{cell_of}
use Rattle.kept_sources.specs.Parts.{IsTakenOut, IsPart as IsPartOfMap}
use Rattle.kept_sources.proofs.Splitting.{just_some_are_a_part}
use Rattle.lane_rows.proofs.Indexing.{same_place}
use Rattle.lane_rows.proofs.Exact.{place_of_one, one_of_cells}
use Rattle.kept_rows.specs.Gaps.{past_one, past, AreGaps, IsPart}

-- ---- one gap

pub one_before : (gap place : ℕ) → place < gap → past_one gap place ≡ place
one_before gap place before = grind (arith, nat_tests)

pub one_behind : (gap place : ℕ) → gap ≤ place → past_one gap place ≡ place + 1
one_behind gap place behind = grind (arith, nat_tests)

pub one_apart : (gap place : ℕ) → past_one gap place ≢ gap
one_apart gap place same = elim (cases_lt place gap) [
  | inl before ↦ let e = one_before gap place before in omega arith
  | inr behind ↦ let e = one_behind gap place behind in omega arith
]

pub one_most : (gap place : ℕ) → past_one gap place ≤ place + 1
one_most gap place = elim (cases_lt place gap) [
  | inl before ↦ let e = one_before gap place before in omega arith
  | inr behind ↦ let e = one_behind gap place behind in omega arith
]

pub one_same : (gap a b : ℕ) → past_one gap a ≡ past_one gap b → a ≡ b
one_same gap a b same = elim (cases_lt a gap) [
  | inl before ↦ elim (cases_lt b gap) [
    | inl early ↦ let e = one_before gap a before in let f = one_before gap b early in omega arith
    | inr late ↦ let e = one_before gap a before in let f = one_behind gap b late in omega arith
  ]
  | inr behind ↦ elim (cases_lt b gap) [
    | inl early ↦ let e = one_behind gap a behind in let f = one_before gap b early in omega arith
    | inr late ↦ let e = one_behind gap a behind in let f = one_behind gap b late in omega arith
  ]
]

-- each place of a list with one cell more but the gap is one of the list
one_back : (gap there count : ℕ) → there ≢ gap → gap ≤ count → there < count + 1 → (place : ℕ) × (place < count) × (past_one gap place ≡ there)
one_back gap there count apart inside most = elim (cases_lt there gap) [
  | inl before ↦ (there, omega arith, one_before gap there before)
  | inr behind ↦
      let after : gap < there = omega arith in
      (there - 1, omega arith, (let e = one_behind gap (there - 1) (omega arith) in omega arith))
]

-- ---- several gaps

pub past_most : (gaps : List ℕ) (place : ℕ) → past gaps place ≤ place + length gaps
past_most [] place = omega arith
past_most (gap ∷ gaps) place = omega (arith, past_most gaps (past_one gap place), one_most gap place)

pub past_same : (gaps : List ℕ) (a b : ℕ) → past gaps a ≡ past gaps b → a ≡ b
past_same [] a b same = same
past_same (gap ∷ gaps) a b same = one_same gap a b (past_same gaps (past_one gap a) (past_one gap b) same)

-- a place before all gaps stays
pub past_before : (least count : ℕ) (gaps : List ℕ) → AreGaps least count gaps → (place : ℕ) → place < least → past gaps place ≡ place
past_before least count [] are place l = refl
past_before least count (gap ∷ gaps) are place l =
    let low = are.0 in
    ap (past gaps) (one_before gap place (omega arith)) ∙ past_before (gap + 1) (count + 1) gaps are.2 place (omega arith)

-- no place of the shorter list is at a gap
pub past_apart : (least count : ℕ) (gaps : List ℕ) → AreGaps least count gaps → (place number : ℕ) → number < length gaps → past gaps place ≢ get_or gaps number 0
past_apart least count [] are place number l same = absurd (omega arith)
past_apart least count (gap ∷ gaps) are place zero l same =
    one_apart gap place (past_same gaps (past_one gap place) gap (same ∙ sym (past_before (gap + 1) (count + 1) gaps are.2 gap (omega arith))))
past_apart least count (gap ∷ gaps) are place (suc number) l same = past_apart (gap + 1) (count + 1) gaps are.2 (past_one gap place) number (omega arith) same

-- the gaps are places of the longer list
pub gap_most : (least count : ℕ) (gaps : List ℕ) → AreGaps least count gaps → (number : ℕ) → number < length gaps → get_or gaps number 0 < count + length gaps
gap_most least count [] are number l = absurd (omega arith)
gap_most least count (gap ∷ gaps) are zero l = let most = are.1 in omega arith
gap_most least count (gap ∷ gaps) are (suc number) l = omega (arith, gap_most (gap + 1) (count + 1) gaps are.2 number (omega arith))

-- each place of the longer list is at a gap, or one of the shorter
pub back_from : (least count : ℕ) (gaps : List ℕ) → AreGaps least count gaps → (there : ℕ) → there < count + length gaps
    → ((number : ℕ) × (number < length gaps) × (get_or gaps number 0 ≡ there)) ⊎ ((place : ℕ) × (place < count) × (past gaps place ≡ there))
back_from least count [] are there l = inr (there, omega arith, refl)
back_from least count (gap ∷ gaps) are there l = elim (back_from (gap + 1) (count + 1) gaps are.2 there (omega arith)) [
  | inl at ↦ inl (suc at.0, (let early = at.1 in omega arith), at.2)
  | inr at ↦ elim (cases_eq at.0 gap) [
    | inl same ↦ inl (zero, omega arith, sym (past_before (gap + 1) (count + 1) gaps are.2 gap (omega arith)) ∙ ap (past gaps) (sym same) ∙ at.2)
    | inr apart ↦
        let back = one_back gap at.0 count apart are.1 at.1 in
        inr (back.0, back.1, ap (past gaps) back.2 ∙ at.2)
  ]
]

module _ (whole part : List Cell) (gaps : List ℕ) (is : IsPart whole part gaps) where
  pub gap_inside : (number : ℕ) → number < length gaps → slice_index gaps number < length whole
  gap_inside number l = omega (arith, gap_most 0 (length part) gaps is.are_gaps number l, is.size)

  pub past_inside : (place : ℕ) → place < length part → past gaps place < length whole
  past_inside place within = omega (arith, past_most gaps place, is.size)

  pub gap_small : length whole ≤ 32768 → (number : ℕ) → number < length gaps → slice_index gaps number < 65536
  gap_small few number l = omega (arith, gap_inside number l)

  -- no place of the shorter list is at a gap
  pub apart_from_gaps : (place number : ℕ) → number < length gaps → past gaps place ≢ slice_index gaps number
  apart_from_gaps place number l = past_apart 0 (length part) gaps is.are_gaps place number l

  pub place_back : (there : ℕ) → there < length whole
      → ((number : ℕ) × (number < length gaps) × (slice_index gaps number ≡ there)) ⊎ ((place : ℕ) × (place < length part) × (past gaps place ≡ there))
  place_back there within = back_from 0 (length part) gaps is.are_gaps there (omega (arith, is.size))

  -- a cell of the shorter list is one of the longer
  pub in_whole : (cell : Cell) → Contains part cell → Contains whole cell
  in_whole cell has =
      let at = place_of_one part cell has in
      subst (Contains whole) (sym (is.same at.0 at.1) ∙ at.2) (one_of_cells whole (past gaps at.0) (past_inside at.0 at.1))

  -- a cell of the longer list is that of a gap, or one of the shorter
  pub at_gap_or_in_part : (cell : Cell) → Contains whole cell
      → ((number : ℕ) × (number < length gaps) × (cell_of whole (slice_index gaps number) ≡ cell)) ⊎ Contains part cell
  at_gap_or_in_part cell has =
      let at = place_of_one whole cell has in
      elim (place_back at.0 at.1) [
        | inl gap ↦ inl (gap.0, gap.1, ap (cell_of whole) gap.2 ∙ at.2)
        | inr back ↦ inr (subst (Contains part) (is.same back.0 back.1 ∙ ap (cell_of whole) back.2 ∙ at.2) (one_of_cells part back.0 back.1))
      ]

  -- a map that has just the shorter list is a part of one that has just the longer
  module _ (map other : Map) (just : HasJust map whole) (just_part : HasJust other part) where
    pub is_part_of : IsPartOfMap map other
    is_part_of = just_some_are_a_part map other part (λ cell next here there. just.one_class cell next (in_whole cell here) (in_whole next there)) just_part

    -- which lacks the cells of the gaps
    pub taken_at_gap : (cell : Cell) → IsTakenOut map other cell → (number : ℕ) × (number < length gaps) × (cell_of whole (slice_index gaps number) ≡ cell)
    taken_at_gap cell taken = elim (at_gap_or_in_part cell ((just.just_these cell).0 taken.was)) [
      | inl gap ↦ gap
      | inr has ↦ absurd (taken.gone ((just_part.just_these cell).1 has))
    ]

    -- and no cell of the shorter list
    pub part_stays : (place : ℕ) → place < length part → IsTakenOut map other (cell_of part place) → ⊥
    part_stays place l taken = taken.gone ((just_part.just_these (cell_of part place)).1 (one_of_cells part place l))

-- ---- loops over the gaps

-- the first gaps are as they have to be, if the rest is
pub record AreGapsTo (count : ℕ) (gaps : List ℕ) (upto least at : ℕ) : Type 0 where
  pub rest : AreGaps least at (drop upto gaps) → AreGaps 0 count gaps
  pub end : at ≡ count + upto

module _ (count : ℕ) (gaps : List ℕ) where
  pub gaps_none : AreGapsTo count gaps 0 0 count
  gaps_none = record { rest = λ are. are; end = omega arith }

  pub gaps_more : (upto least at gap : ℕ) → AreGapsTo count gaps upto least at → upto < length gaps → gap ≡ get_or gaps upto 0 → least ≤ gap → gap ≤ at → AreGapsTo count gaps (upto + 1) (gap + 1) (at + 1)
  gaps_more upto least at gap to within is low inside = record {
    rest = λ are. to.rest (subst (AreGaps least at) (sym (drop_more gaps upto 0 within)) (subst (λ g. AreGaps least at (g ∷ drop (upto + 1) gaps)) is (low, inside, are)));
    end = omega (arith, to.end);
  }

  pub gaps_all : (upto least at : ℕ) → AreGapsTo count gaps upto least at → length gaps ≤ upto → AreGaps 0 count gaps
  gaps_all upto least at to all = to.rest (subst (AreGaps least at) (sym (drop_all upto gaps all)) tt)

-- the first gaps are passed
pub record IsPastTo (gaps : List ℕ) (place upto there : ℕ) : Type 0 where
  pub rest : past (drop upto gaps) there ≡ past gaps place
  pub most : there ≤ place + upto

module _ (gaps : List ℕ) (place : ℕ) where
  pub past_none : IsPastTo gaps place 0 place
  past_none = record { rest = refl; most = omega arith }

  pub past_more : (upto there gap there' : ℕ) → IsPastTo gaps place upto there → upto < length gaps → gap ≡ get_or gaps upto 0 → there' ≡ past_one gap there → IsPastTo gaps place (upto + 1) there'
  past_more upto there gap there' to within is moved = record {
    rest =
        ap (past (drop (upto + 1) gaps)) (moved ∙ ap (λ g. past_one g there) is)
        ∙ sym (ap (λ list. past list there) (drop_more gaps upto 0 within)) ∙ to.rest;
    most = omega (arith, to.most, one_most gap there, moved);
  }

  pub past_all : (upto there : ℕ) → IsPastTo gaps place upto there → length gaps ≤ upto → there ≡ past gaps place
  past_all upto there to all = sym (ap (λ list. past list there) (drop_all upto gaps all)) ∙ to.rest
