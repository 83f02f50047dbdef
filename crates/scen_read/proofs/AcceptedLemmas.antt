-- A text is accepted exactly where it stands for scenarios.
use Rattle.std.proofs.Common.{◌≡◌, ℕ, ◌+◌, true, eqb, List, [], ◌∷◌, ◌++◌, length, get_or, drop, Some, Result, Ok, refl, sym, ap, subst, ◌∙◌, append_assoc, inl, inr}
use Rattle.std.specs.Prelude.{codes}
use Rattle.std.proofs.lemmas.Bool.{cases_Bool, eqb-true}
use Rattle.std.proofs.lemmas.List.{append-nil}
use Rattle.moves.specs.declared.Cell.{Cell}
use Rattle.text_lines.specs.Judging.{◌>>=◌, checked}
use Rattle.text_lines.specs.Lines.{lines_of}
use Rattle.text_lines.specs.Words.{has_words, is_blank}
use Rattle.text_lines.proofs.JudgingLemmas.{bind_ok, checked_ok, wanted_ok}
use Rattle.text_lines.proofs.WordTests.{words_from_test, test_from_words}
use Rattle.scen_read.specs.declared.fault.ScenFault.{ScenFault}
use Rattle.scen_read.specs.declared.fault.ScenFault.TheVariants.{Version, Fields, Number}
use Rattle.scen_read.specs.declared.scenario.ScenLine.{ScenLine}
use Rattle.scen_read.specs.Fields.{fields_of, field_at}
use Rattle.scen_read.specs.ScenText.{value_in, number_field, cell_field, scenario_of, scenario_with, is_version_line, scenarios_in, scenarios_of}
use Rattle.scen_read.specs.Accepted.{SayScenario, AreScenarios, IsVersionLine, IsScenarioText, AcceptsExactlyScenarioTexts}
use Rattle.scen_read.proofs.ScenarioLemmas.{all_good}
use Rattle.scen_read.proofs.TextLemmas.{after_version}

-- ---- one line

-- what follows each field of a scenario
module _ (line : ℕ) (fields : List (List ℕ)) where
  abbrev pub with_length : ℕ → ℕ → ℕ → Cell → Cell → Result ScenLine ScenFault
  with_length bucket width height start goal =
      number_field line 9 fields >>= λ nano. Ok (scenario_with fields bucket width height start goal nano)

  abbrev pub with_goal : ℕ → ℕ → ℕ → Cell → Result ScenLine ScenFault
  with_goal bucket width height start = cell_field line 7 fields >>= λ goal. with_length bucket width height start goal

  abbrev pub with_start : ℕ → ℕ → ℕ → Result ScenLine ScenFault
  with_start bucket width height = cell_field line 5 fields >>= λ start. with_goal bucket width height start

  abbrev pub with_height : ℕ → ℕ → Result ScenLine ScenFault
  with_height bucket width = number_field line 4 fields >>= λ height. with_start bucket width height

  abbrev pub with_width : ℕ → Result ScenLine ScenFault
  with_width bucket = number_field line 3 fields >>= λ width. with_height bucket width

  abbrev pub with_bucket : Result ScenLine ScenFault
  with_bucket = number_field line 1 fields >>= λ bucket. with_width bucket

  pub number_is : (place n : ℕ) → number_field line place fields ≡ Ok n → value_in place (field_at fields place) ≡ Some n
  number_is place n e = wanted_ok (value_in place (field_at fields place)) n (Number line place) e

  pub cell_is : (place : ℕ) (cell : Cell) → cell_field line place fields ≡ Ok cell
      → (value_in place (field_at fields place) ≡ Some cell.x) × (value_in (place + 1) (field_at fields (place + 1)) ≡ Some cell.y)
  cell_is place cell e =
      let a = bind_ok (number_field line place fields) (λ x. number_field line (place + 1) fields >>= λ y. Ok (record { x = x; y = y })) cell e in
      let b = bind_ok (number_field line (place + 1) fields) (λ y. Ok (record { x = a.0; y = y })) cell a.2 in
      let made : Cell = record { x = a.0; y = b.0 } in
      let same : made ≡ cell = cc (b.2) in (
        number_is place a.0 a.1 ∙ ap (λ (m : Cell). Some m.x) same,
        number_is (place + 1) b.0 b.1 ∙ ap (λ (m : Cell). Some m.y) same,
      )

  pub scenario_is : (s : ScenLine) → scenario_of line fields ≡ Ok s → SayScenario fields s
  unfolding scenario_of
  scenario_is s e =
      let nine = bind_ok (checked (eqb (length fields) 9) fields (Fields line (length fields))) (λ _. with_bucket) s e in
      let bucket = bind_ok (number_field line 1 fields) (λ b. with_width b) s nine.2 in
      let width = bind_ok (number_field line 3 fields) (λ w. with_height bucket.0 w) s bucket.2 in
      let height = bind_ok (number_field line 4 fields) (λ h. with_start bucket.0 width.0 h) s width.2 in
      let start = bind_ok (cell_field line 5 fields) (λ c. with_goal bucket.0 width.0 height.0 c) s height.2 in
      let goal = bind_ok (cell_field line 7 fields) (λ c. with_length bucket.0 width.0 height.0 start.0 c) s start.2 in
      let nano = bind_ok (number_field line 9 fields)
      (λ n. Ok (scenario_with fields bucket.0 width.0 height.0 start.0 goal.0 n)) s goal.2 in
      let made = scenario_with fields bucket.0 width.0 height.0 start.0 goal.0 nano.0 in
      let same : made ≡ s = cc (nano.2) in
      let from = cell_is 5 start.0 start.1 in
      let to = cell_is 7 goal.0 goal.1 in
      let is : SayScenario fields made = record {
        nine = eqb-true (length fields) 9 (checked_ok (eqb (length fields) 9) fields nine.0 (Fields line (length fields)) nine.1).0;
        bucket = number_is 1 bucket.0 bucket.1;
        name = refl;
        width = number_is 3 width.0 width.1;
        height = number_is 4 height.0 height.1;
        start_x = from.0;
        start_y = from.1;
        goal_x = to.0;
        goal_y = to.1;
        nano = number_is 9 nano.0 nano.1;
      } in
      subst (λ (t : ScenLine). SayScenario fields t) same is

  number_back : (place n : ℕ) → value_in place (field_at fields place) ≡ Some n → number_field line place fields ≡ Ok n
  number_back place n e = rw e refl

  cell_back : (place : ℕ) (cell : Cell) → value_in place (field_at fields place) ≡ Some cell.x → value_in (place + 1) (field_at fields (place + 1)) ≡ Some cell.y
      → cell_field line place fields ≡ Ok cell
  cell_back place cell x y = rw (x, y) refl

  scenario_back : (s : ScenLine) → SayScenario fields s → scenario_of line fields ≡ Ok s
  scenario_back s say =
      let good = all_good line fields say.nine s.bucket (number_back 1 s.bucket say.bucket) s.width (number_back 3 s.width say.width)
      s.height (number_back 4 s.height say.height) s.start (cell_back 5 s.start say.start_x say.start_y)
      s.goal (cell_back 7 s.goal say.goal_x say.goal_y) s.nano (number_back 9 s.nano say.nano) in
      good ∙ ap (λ (n : List ℕ). Ok (record s { name = n })) say.name

-- ---- all lines

-- scenarios that were read, after those before
pub record HasRead (before all : List ScenLine) (Fits : List ScenLine → Type 0) : Type 0 where
  pub more : List ScenLine
  pub joined : all ≡ before ++ more
  pub fits : Fits more

lines_are : (number : ℕ) (before : List ScenLine) (lines : List (List ℕ)) (all : List ScenLine) → scenarios_in number before lines ≡ Ok all
    → HasRead before all (λ more. AreScenarios lines more)
unfolding scenarios_in AreScenarios
lines_are number before [] all e =
    let same : before ≡ all = cc in
    record { more = []; joined = sym same ∙ sym (append-nil before); fits = refl }
lines_are number before (line ∷ lines) all e = elim (cases_Bool (is_blank line)) [
  | inl blank ↦
      let rest = lines_are (number + 1) before lines all (rw blank at e) in
      record { more = rest.more; joined = rest.joined; fits = inl (blank, rest.fits) }
  | inr text ↦
      let e' : (scenario_of number (fields_of line) >>= λ s. scenarios_in (number + 1) (before ++ s ∷ []) lines) ≡ Ok all = rw text at e in
      let a = bind_ok (scenario_of number (fields_of line)) (λ s. scenarios_in (number + 1) (before ++ s ∷ []) lines) all e' in
      let rest = lines_are (number + 1) (before ++ a.0 ∷ []) lines all a.2 in
      record {
        more = a.0 ∷ rest.more;
        joined = rest.joined ∙ append_assoc before (a.0 ∷ []) rest.more;
        fits = inr (a.0, rest.more, refl, (text, scenario_is number (fields_of line) a.0 a.1), rest.fits);
      }
]

pub lines_back : (number : ℕ) (before : List ScenLine) (lines : List (List ℕ)) (more : List ScenLine) → AreScenarios lines more
    → scenarios_in number before lines ≡ Ok (before ++ more)
unfolding scenarios_in AreScenarios
lines_back number before [] more none = ap (λ (ss : List ScenLine). Ok ss) (sym (append-nil before) ∙ ap (λ (ss : List ScenLine). before ++ ss) (sym none))
lines_back number before (line ∷ lines) more are = elim are [
  | inl e ↦ rw (e.0) (lines_back (number + 1) before lines more e.1)
  | inr e ↦
      let good = scenario_back number (fields_of line) e.0 e.3.1 in
      let rest = lines_back (number + 1) (before ++ e.0 ∷ []) lines e.1 e.4 in
      let parts = append_assoc before (e.0 ∷ []) e.1 ∙ ap (λ (ss : List ScenLine). before ++ ss) (sym e.2) in
      rw (e.3.0, good) (rest ∙ ap (λ (ss : List ScenLine). Ok ss) parts)
]

-- ---- the whole text

pub version_line_is : (line : List ℕ) → is_version_line line ≡ true → IsVersionLine line
version_line_is line e = elim (cases_Bool (has_words (codes "version" ∷ codes "1" ∷ []) line)) [
  | inl one ↦ inl (words_from_test _ line one)
  | inr other ↦ let two : has_words (codes "version" ∷ codes "1.0" ∷ []) line ≡ true = rw other at e in inr (words_from_test _ line two)
]

pub version_line_back : (line : List ℕ) → IsVersionLine line → is_version_line line ≡ true
version_line_back line is = elim is [
  | inl one ↦ let a = test_from_words (codes "version" ∷ codes "1" ∷ []) line one in rw a refl
  | inr two ↦ let b = test_from_words (codes "version" ∷ codes "1.0" ∷ []) line two in elim (cases_Bool (has_words (codes "version" ∷ codes "1" ∷ []) line)) [
    | inl yes' ↦ rw yes' refl
    | inr no' ↦ rw (no', b) refl
  ]
]

pub text_is : (text : List ℕ) (scenarios : List ScenLine) → scenarios_of text ≡ Ok scenarios → IsScenarioText text scenarios
unfolding scenarios_of
text_is text scenarios e =
    let first = is_version_line (get_or (lines_of text) 0 []) in
    let a = bind_ok (checked first text Version) (λ _. scenarios_in 2 [] (drop 1 (lines_of text))) scenarios e in
    let version = (checked_ok first text a.0 Version a.1).0 in
    let lines = lines_are 2 [] (drop 1 (lines_of text)) scenarios a.2 in
    record {
      version = version_line_is (get_or (lines_of text) 0 []) version;
      scenarios_are = subst (λ (ss : List ScenLine). AreScenarios (drop 1 (lines_of text)) ss) (sym lines.joined) lines.fits;
    }

pub text_back : (text : List ℕ) (scenarios : List ScenLine) → IsScenarioText text scenarios → scenarios_of text ≡ Ok scenarios
text_back text scenarios is =
    after_version text (Ok scenarios) (version_line_back (get_or (lines_of text) 0 []) is.version) (lines_back 2 [] (drop 1 (lines_of text)) scenarios is.scenarios_are)

pub accepts_scenario_texts : AcceptsExactlyScenarioTexts
accepts_scenario_texts text scenarios = (text_is text scenarios, text_back text scenarios)
