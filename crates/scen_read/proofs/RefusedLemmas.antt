-- A refusal names the first fault.
use Rattle.std.proofs.Common.{◌≡◌, ◌≢◌, ℕ, suc, ◌+◌, ◌-◌, ◌<◌, ◌≤◌, true, false, eqb, List, [], ◌∷◌, ◌++◌, length, get_or, take, drop, Some, None, Ok, Err, refl, sym, ap, subst, ◌∙◌, arith, inl, inr}
use Rattle.std.proofs.lemmas.Bool.{cases_Bool, cases_lt, eqb-true, eqb-false, false≢true}
use Rattle.std.proofs.lemmas.List.{drop-drop, get_or-drop, length-drop, take_more}
use Rattle.moves.specs.declared.Cell.{Cell}
use Rattle.text_lines.specs.Judging.{◌>>=◌, checked}
use Rattle.text_lines.specs.Lines.{lines_of}
use Rattle.text_lines.specs.Words.{is_blank}
use Rattle.text_lines.proofs.JudgingLemmas.{bind_err, checked_ok, checked_err, wanted_err}
use Rattle.scen_read.specs.declared.fault.ScenFault.{ScenFault}
use Rattle.scen_read.specs.declared.fault.ScenFault.TheVariants.{Version, Fields, Number}
use Rattle.scen_read.specs.declared.scenario.ScenLine.{ScenLine}
use Rattle.scen_read.specs.Fields.{fields_of, field_at}
use Rattle.scen_read.specs.ScenText.{value_in, number_field, cell_field, scenario_of, scenario_with, is_version_line, scenarios_in, scenarios_of}
use Rattle.scen_read.specs.Accepted.{IsScenario, AreScenarios, IsVersionLine}
use Rattle.scen_read.specs.Refused.{fields_at, IsReadTo, IsGoodField, IsBadField, IsFirstFault, RefusalsNameTheFirstFault}
use Rattle.scen_read.proofs.AcceptedLemmas.{with_length, with_goal, with_start, with_height, with_width, with_bucket, number_is, cell_is, scenario_is, version_line_is, version_line_back}

-- ---- one line

-- a fault of a line with these fields
abbrev IsLineFault : ℕ → List (List ℕ) → ScenFault → Type 0
IsLineFault line fields Version = ⊥
IsLineFault line fields (Fields number found) = (number ≡ line) × (found ≡ length fields) × (found ≢ 9)
IsLineFault line fields (Number number place) = (number ≡ line) × IsBadField fields place

-- the fields before this one are as they have to be
abbrev AreGood : List (List ℕ) → ℕ → Type 0
AreGood fields place = (other : ℕ) → 1 ≤ other → other < place → IsGoodField fields other

good_more : (fields : List (List ℕ)) (place : ℕ) → IsGoodField fields place → AreGood fields place → AreGood fields (suc place)
good_more fields place here good other first below = elim (cases_lt other place) [
  | inl lt ↦ good other first lt
  | inr le ↦ let same : place ≡ other = omega arith in subst (λ (k : ℕ). IsGoodField fields k) same here
]

none_good : (fields : List (List ℕ)) → AreGood fields 1
none_good fields other first below = absurd (omega arith)

good_value : (fields : List (List ℕ)) (place n : ℕ) → value_in place (field_at fields place) ≡ Some n → IsGoodField fields place
good_value fields place n e = λ other none. absurd (let no' : Some n ≡ None = sym e ∙ none in cc)

good_name : (fields : List (List ℕ)) → IsGoodField fields 2
good_name fields = λ other. absurd (other refl)

module _ (line : ℕ) (fields : List (List ℕ)) (nine : length fields ≡ 9) where
  number_fault : (place : ℕ) (fault : ScenFault) → 1 ≤ place → place ≤ 9 → place ≢ 2 → AreGood fields place → number_field line place fields ≡ Err fault
      → IsLineFault line fields fault
  number_fault place fault first last number good e =
      let b = wanted_err (value_in place (field_at fields place)) (Number line place) fault e in
      let is : IsLineFault line fields (Number line place) =
      (refl, record { nine = nine; first = first; last = last; number = number; none = b.0; before = good }) in
      subst (λ (f : ScenFault). IsLineFault line fields f) b.1 is

  good_number : (place n : ℕ) → number_field line place fields ≡ Ok n → IsGoodField fields place
  good_number place n e = good_value fields place n (number_is line fields place n e)

  cell_fault : (place : ℕ) (fault : ScenFault) → 2 < place → place < 9 → AreGood fields place → cell_field line place fields ≡ Err fault → IsLineFault line fields fault
  cell_fault place fault first last good e =
      elim (bind_err (number_field line place fields) (λ x. number_field line (place + 1) fields >>= λ y. Ok (record { x = x; y = y })) fault e) [
        | inl bad ↦ number_fault place fault (omega arith) (omega arith) (omega arith) good bad
        | inr more ↦ elim (bind_err (number_field line (place + 1) fields) (λ y. Ok (record { x = more.0; y = y })) fault more.2) [
          | inl bad ↦
              let next = good_more fields place (good_number place more.0 more.1) good in
              let next' : AreGood fields (place + 1) = λ other first' below. next other first' (omega arith) in
              number_fault (place + 1) fault (omega arith) (omega arith) (omega arith) next' bad
          | inr rest ↦ let no' : Ok (record { x = more.0; y = rest.0 }) ≡ Err fault = rest.2 in absurd cc
        ]
      ]

  -- both fields of a cell are as they have to be
  good_cell : (place : ℕ) (cell : Cell) → AreGood fields place → cell_field line place fields ≡ Ok cell → AreGood fields (place + 2)
  good_cell place cell good e =
      let is = cell_is line fields place cell e in
      let one = good_more fields place (good_value fields place cell.x is.0) good in
      let one' : AreGood fields (place + 1) = λ other first below. one other first (omega arith) in
      let two = good_more fields (place + 1) (good_value fields (place + 1) cell.y is.1) one' in
      λ other first below. two other first (omega arith)

  length_fault : (bucket width height : ℕ) (start goal : Cell) (fault : ScenFault) → AreGood fields 9 → with_length line fields bucket width height start goal ≡ Err fault
      → IsLineFault line fields fault
  length_fault bucket width height start goal fault good e =
      elim (bind_err (number_field line 9 fields)
      (λ n. Ok (scenario_with fields bucket width height start goal n)) fault e) [
        | inl bad ↦ number_fault 9 fault (omega arith) (omega arith) (omega arith) good bad
        | inr rest ↦
            let no' : Ok (scenario_with fields bucket width height start goal rest.0) ≡ Err fault = rest.2 in
            absurd cc
      ]

  goal_fault : (bucket width height : ℕ) (start : Cell) (fault : ScenFault) → AreGood fields 7 → with_goal line fields bucket width height start ≡ Err fault
      → IsLineFault line fields fault
  goal_fault bucket width height start fault good e =
      elim (bind_err (cell_field line 7 fields) (λ goal. with_length line fields bucket width height start goal) fault e) [
        | inl bad ↦ cell_fault 7 fault (omega arith) (omega arith) good bad
        | inr rest ↦ length_fault bucket width height start rest.0 fault (good_cell 7 rest.0 good rest.1) rest.2
      ]

  start_fault : (bucket width height : ℕ) (fault : ScenFault) → AreGood fields 5 → with_start line fields bucket width height ≡ Err fault → IsLineFault line fields fault
  start_fault bucket width height fault good e =
      elim (bind_err (cell_field line 5 fields) (λ start. with_goal line fields bucket width height start) fault e) [
        | inl bad ↦ cell_fault 5 fault (omega arith) (omega arith) good bad
        | inr rest ↦ goal_fault bucket width height rest.0 fault (good_cell 5 rest.0 good rest.1) rest.2
      ]

  height_fault : (bucket width : ℕ) (fault : ScenFault) → AreGood fields 4 → with_height line fields bucket width ≡ Err fault → IsLineFault line fields fault
  height_fault bucket width fault good e =
      elim (bind_err (number_field line 4 fields) (λ height. with_start line fields bucket width height) fault e) [
        | inl bad ↦ number_fault 4 fault (omega arith) (omega arith) (omega arith) good bad
        | inr rest ↦ start_fault bucket width rest.0 fault (good_more fields 4 (good_number 4 rest.0 rest.1) good) rest.2
      ]

  width_fault : (bucket : ℕ) (fault : ScenFault) → AreGood fields 3 → with_width line fields bucket ≡ Err fault → IsLineFault line fields fault
  width_fault bucket fault good e =
      elim (bind_err (number_field line 3 fields) (λ width. with_height line fields bucket width) fault e) [
        | inl bad ↦ number_fault 3 fault (omega arith) (omega arith) (omega arith) good bad
        | inr rest ↦ height_fault bucket rest.0 fault (good_more fields 3 (good_number 3 rest.0 rest.1) good) rest.2
      ]

  bucket_fault : (fault : ScenFault) → with_bucket line fields ≡ Err fault → IsLineFault line fields fault
  bucket_fault fault e =
      elim (bind_err (number_field line 1 fields) (λ bucket. with_width line fields bucket) fault e) [
        | inl bad ↦ number_fault 1 fault (omega arith) (omega arith) (omega arith) (none_good fields) bad
        | inr rest ↦
            let one = good_more fields 1 (good_number 1 rest.0 rest.1) (none_good fields) in
            width_fault rest.0 fault (good_more fields 2 (good_name fields) one) rest.2
      ]

line_fault : (line : ℕ) (fields : List (List ℕ)) (fault : ScenFault) → scenario_of line fields ≡ Err fault → IsLineFault line fields fault
unfolding scenario_of
line_fault line fields fault e =
    let nine = eqb (length fields) 9 in
    elim (bind_err (checked nine fields (Fields line (length fields))) (λ _. with_bucket line fields) fault e) [
      | inl bad ↦
          let b = checked_err nine fields (Fields line (length fields)) fault bad in
          let is : IsLineFault line fields (Fields line (length fields)) = (refl, refl, λ same. eqb-false (length fields) 9 b.0 same) in
          subst (λ (f : ScenFault). IsLineFault line fields f) b.1 is
      | inr rest ↦
          let good = checked_ok nine fields rest.0 (Fields line (length fields)) rest.1 in
          bucket_fault line fields (eqb-true (length fields) 9 good.0) fault rest.2
    ]

-- ---- all lines

blank_joined : (lines : List (List ℕ)) (line : List ℕ) (scenarios : List ScenLine) → AreScenarios lines scenarios → is_blank line ≡ true → AreScenarios (lines ++ line ∷ []) scenarios
unfolding AreScenarios
blank_joined [] line scenarios are blank = inl (blank, are)
blank_joined (first ∷ lines) line scenarios are blank = elim are [
  | inl e ↦ inl (e.0, blank_joined lines line scenarios e.1 blank)
  | inr e ↦ inr (e.0, e.1, e.2, e.3, blank_joined lines line e.1 e.4 blank)
]

scenario_joined : (lines : List (List ℕ)) (line : List ℕ) (scenarios : List ScenLine) (s : ScenLine) → AreScenarios lines scenarios → IsScenario line s
    → AreScenarios (lines ++ line ∷ []) (scenarios ++ s ∷ [])
unfolding AreScenarios
scenario_joined [] line scenarios s are is = inr (s, [], ap (λ (ss : List ScenLine). ss ++ s ∷ []) are, is, refl)
scenario_joined (first ∷ lines) line scenarios s are is = elim are [
  | inl e ↦ inl (e.0, scenario_joined lines line scenarios s e.1 is)
  | inr e ↦ inr (e.0, e.1 ++ s ∷ [], ap (λ (ss : List ScenLine). ss ++ s ∷ []) e.2, e.3, scenario_joined lines line e.1 s e.4 is)
]

module _ (lines : List (List ℕ)) (version : IsVersionLine (get_or lines 0 [])) where
  -- a fault of a line is the first fault
  line_first : (number count : ℕ) (done : List ScenLine) (fault : ScenFault) → number ≡ 2 + count → AreScenarios (take count (drop 1 lines)) done
      → number ≤ length lines → is_blank (get_or lines (number - 1) []) ≡ false → IsLineFault number (fields_at lines number) fault → IsFirstFault lines fault
  line_first number count done fault number-is are there text is =
      let read : IsReadTo lines number = record {
        scenarios = done;
        version = version;
        after = omega arith;
        before = subst (λ (k : ℕ). AreScenarios (take k (drop 1 lines)) done) (let same : count ≡ number - 2 = omega arith in same) are;
        there = there;
        text = text;
      } in
      first fault read is where
        first : (f : ScenFault) → IsReadTo lines number → IsLineFault number (fields_at lines number) f → IsFirstFault lines f
        first Version read is = absurd is
        first (Fields line found) read is =
            (subst (λ (k : ℕ). IsReadTo lines k) (sym is.0) read, is.1 ∙ ap (λ (k : ℕ). length (fields_at lines k)) (sym is.0), is.2)
        first (Number line place) read is =
            (subst (λ (k : ℕ). IsReadTo lines k) (sym is.0) read, subst (λ (k : ℕ). IsBadField (fields_at lines k) place) (sym is.0) is.1)

  lines_fault : (number count : ℕ) (before done : List ScenLine) (left : List (List ℕ)) (fault : ScenFault) → number ≡ 2 + count → left ≡ drop (1 + count) lines
      → AreScenarios (take count (drop 1 lines)) done → scenarios_in number before left ≡ Err fault → IsFirstFault lines fault
  unfolding scenarios_in
  lines_fault number count before done [] fault number-is left-is are e = absurd cc
  lines_fault number count before done (line ∷ left) fault number-is left-is are e =
      let some = ap (λ (ls : List (List ℕ)). length ls) left-is in
      let there : number ≤ length lines = omega (arith, some, length-drop (1 + count) lines, number-is) in
      let here : line ≡ get_or lines (number - 1) [] =
      ap (λ (ls : List (List ℕ)). get_or ls 0 []) left-is ∙ get_or-drop (1 + count) lines 0 []
      ∙ ap (λ (k : ℕ). get_or lines k []) (let same : 1 + count + 0 ≡ number - 1 = omega arith in same) in
      let rest-is : left ≡ drop (1 + (count + 1)) lines =
      ap (λ (ls : List (List ℕ)). drop 1 ls) left-is ∙ drop-drop 1 (1 + count) lines ∙ ap (λ (k : ℕ). drop k lines) (let same : 1 + count + 1 ≡ 1 + (count + 1) = omega arith in same) in
      let next : number + 1 ≡ 2 + (count + 1) = omega arith in
      let at : get_or (drop 1 lines) count [] ≡ line = get_or-drop 1 lines count [] ∙ ap (λ (k : ℕ). get_or lines k []) (let same : 1 + count ≡ number - 1 = omega arith in same) ∙ sym here in
      let more : take (count + 1) (drop 1 lines) ≡ take count (drop 1 lines) ++ line ∷ [] =
      take_more (drop 1 lines) count [] (omega (arith, length-drop 1 lines, there, number-is)) ∙ ap (λ (l : List ℕ). take count (drop 1 lines) ++ l ∷ []) at in
      elim (cases_Bool (is_blank line)) [
        | inl blank ↦
            let are' : AreScenarios (take (count + 1) (drop 1 lines)) done =
            subst (λ (ls : List (List ℕ)). AreScenarios ls done) (sym more) (blank_joined (take count (drop 1 lines)) line done are blank) in
            lines_fault (number + 1) (count + 1) before done left fault next rest-is are' (rw blank at e)
        | inr text ↦
            let e' : (scenario_of number (fields_of line) >>= λ s. scenarios_in (number + 1) (before ++ s ∷ []) left) ≡ Err fault = rw text at e in
            elim (bind_err (scenario_of number (fields_of line)) (λ s. scenarios_in (number + 1) (before ++ s ∷ []) left) fault e') [
              | inl bad ↦
                  let is = line_fault number (fields_of line) fault bad in
                  line_first number count done fault number-is are there (sym (ap is_blank here) ∙ text)
                  (subst (λ (l : List ℕ). IsLineFault number (fields_of l) fault) here is)
              | inr good ↦
                  let is : IsScenario line good.0 = (text, scenario_is number (fields_of line) good.0 good.1) in
                  let are' : AreScenarios (take (count + 1) (drop 1 lines)) (done ++ good.0 ∷ []) =
                  subst (λ (ls : List (List ℕ)). AreScenarios ls (done ++ good.0 ∷ [])) (sym more) (scenario_joined (take count (drop 1 lines)) line done good.0 are is) in
                  lines_fault (number + 1) (count + 1) (before ++ good.0 ∷ []) (done ++ good.0 ∷ []) left fault next rest-is are' good.2
            ]
      ]

pub refusals_name_first : RefusalsNameTheFirstFault
unfolding scenarios_of AreScenarios
refusals_name_first text fault e =
    let lines = lines_of text in
    let first = is_version_line (get_or lines 0 []) in
    elim (bind_err (checked first text Version) (λ _. scenarios_in 2 [] (drop 1 lines)) fault e) [
      | inl bad ↦
          let b = checked_err first text Version fault bad in
          let is : IsFirstFault lines Version = λ version. false≢true (sym b.0 ∙ version_line_back (get_or lines 0 []) version) in
          subst (λ (f : ScenFault). IsFirstFault lines f) b.1 is
      | inr rest ↦
          let good = checked_ok first text rest.0 Version rest.1 in
          lines_fault lines (version_line_is (get_or lines 0 []) good.0) 2 0 [] [] (drop 1 lines) fault refl refl refl rest.2
    ]
