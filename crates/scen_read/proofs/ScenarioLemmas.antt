-- What the fields of a line say, one after another.
use Rattle.std.proofs.Common.{◌≡◌, ℕ, ◌+◌, true, false, eqb, Some, None, List, [], length, get_or, drop, Result, Ok, Err, refl, sym, ap, subst, ◌∙◌}
use Rattle.std.specs.Prelude.{codes}
use Rattle.std.specs.Str.{bytes_eq}
use Rattle.std.proofs.lemmas.Bool.{eq-eqb, ne_eqb}
use Rattle.std.proofs.lemmas.List.{drop-drop, get_or-drop}
use Rattle.moves.specs.declared.Cell.{Cell}
use Rattle.text_lines.specs.Judging.{◌>>=◌, wanted}
use Rattle.text_lines.specs.Numbers.{number_at_most}
use Rattle.text_lines.specs.Words.{words_of, two_of, without_gaps_at_end}
use Rattle.text_lines.proofs.WordTests.{has_two_yes, has_two_no, has_not_two}
use Rattle.scen_read.specs.declared.fault.ScenFault.{ScenFault}
use Rattle.scen_read.specs.declared.fault.ScenFault.TheVariants.{Fields, Number}
use Rattle.scen_read.specs.Fields.{fields_in, fields_of}
use Rattle.scen_read.specs.Inside.{says_one, next_number, next_cell, next_length}
use Rattle.scen_read.specs.ScenText.{greatest_number, greatest_coordinate, length_in, number_field, cell_field, scenario_of, scenario_with, is_version_line}

-- ---- the fields that are left

-- the fields that are left after so many
abbrev pub AreLeft : List (List ℕ) → ℕ → List (List ℕ) → Type 0
AreLeft fields count left = left ≡ drop count fields

pub left_next : (fields left next : List (List ℕ)) (count more : ℕ) → AreLeft fields count left → next ≡ drop more left → AreLeft fields (count + more) next
left_next fields left next count more is next-is = next-is ∙ ap (λ (fs : List (List ℕ)). drop more fs) is ∙ drop-drop more count fields

first_left : (fields left : List (List ℕ)) (count : ℕ) → AreLeft fields count left → get_or left 0 [] ≡ get_or fields (count + 0) []
first_left fields left count is = ap (λ (fs : List (List ℕ)). get_or fs 0 []) is ∙ get_or-drop count fields 0 []

second_left : (fields left : List (List ℕ)) (count : ℕ) → AreLeft fields count left → get_or (drop 1 left) 0 [] ≡ get_or fields (count + 1 + 0) []
second_left fields left count is = first_left fields (drop 1 left) (count + 1) (left_next fields left (drop 1 left) count 1 is refl)

-- the number in the first field that is left
pub number_left : (fields left : List (List ℕ)) (count line place most : ℕ) (r : Result ℕ ScenFault) → AreLeft fields count left
    → r ≡ next_number line place most left → wanted (number_at_most most (get_or fields (count + 0) [])) (Number line place) ≡ r
number_left fields left count line place most r is e =
    sym (e ∙ ap (λ (word : List ℕ). wanted (number_at_most most word) (Number line place)) (first_left fields left count is))

-- the cell in the first two fields that are left
pub cell_left : (fields left : List (List ℕ)) (count line place : ℕ) (r : Result Cell ScenFault) → AreLeft fields count left → r ≡ next_cell line place left
    → (wanted (number_at_most greatest_coordinate (get_or fields (count + 0) [])) (Number line place) >>= λ x.
    wanted (number_at_most greatest_coordinate (get_or fields (count + 1 + 0) [])) (Number line (place + 1)) >>= λ y. Ok (record { x = x; y = y }))
    ≡ r
cell_left fields left count line place r is e =
    let made : List ℕ → List ℕ → Result Cell ScenFault = λ one two.
    wanted (number_at_most greatest_coordinate one) (Number line place) >>= λ x.
    wanted (number_at_most greatest_coordinate two) (Number line (place + 1)) >>= λ y. Ok (record { x = x; y = y }) in
    sym
    (e ∙ ap (λ (one : List ℕ). made one (get_or (drop 1 left) 0 [])) (first_left fields left count is)
    ∙ ap (λ (two : List ℕ). made (get_or fields (count + 0) []) two) (second_left fields left count is))

-- the length in the first field that is left
pub length_left : (fields left : List (List ℕ)) (count line : ℕ) (r : Result ℕ ScenFault) → AreLeft fields count left
    → r ≡ next_length line left → wanted (length_in (get_or fields (count + 0) [])) (Number line 9) ≡ r
length_left fields left count line r is e =
    sym (e ∙ ap (λ (word : List ℕ). wanted (length_in word) (Number line 9)) (first_left fields left count is))

-- the first field that is left
pub field_left : (fields left : List (List ℕ)) (count : ℕ) (field : List ℕ) → AreLeft fields count left → field ≡ get_or left 0 [] → field ≡ get_or fields (count + 0) []
field_left fields left count field is e = e ∙ first_left fields left count is

-- ---- the first refusal

pub other_count : (line : ℕ) (fields : List (List ℕ)) (found : ℕ) → found ≡ length fields → (found ≡ 9 → ⊥) → scenario_of line fields ≡ Err (Fields line found)
unfolding scenario_of
other_count line fields found is other =
    let none = ne_eqb (length fields) 9 (λ e. other (is ∙ e)) in
    rw (none, is) refl

module _ (line : ℕ) (fields : List (List ℕ)) (nine : length fields ≡ 9) where
  nine_is : eqb (length fields) 9 ≡ true
  nine_is = eq-eqb (length fields) 9 nine

  pub bad_bucket : (fault : ScenFault) → number_field line 1 fields ≡ Err fault → scenario_of line fields ≡ Err fault
  unfolding scenario_of
  bad_bucket fault e = rw (nine_is, e) refl

  module _ (bucket : ℕ) (bucket-is : number_field line 1 fields ≡ Ok bucket) where
    pub bad_width : (fault : ScenFault) → number_field line 3 fields ≡ Err fault → scenario_of line fields ≡ Err fault
    unfolding scenario_of
    bad_width fault e = rw (nine_is, bucket-is, e) refl

    module _ (width : ℕ) (width-is : number_field line 3 fields ≡ Ok width) where
      pub bad_height : (fault : ScenFault) → number_field line 4 fields ≡ Err fault → scenario_of line fields ≡ Err fault
      unfolding scenario_of
      bad_height fault e = rw (nine_is, bucket-is, width-is, e) refl

      module _ (height : ℕ) (height-is : number_field line 4 fields ≡ Ok height) where
        pub bad_start : (fault : ScenFault) → cell_field line 5 fields ≡ Err fault → scenario_of line fields ≡ Err fault
        unfolding scenario_of
        bad_start fault e = rw (nine_is, bucket-is, width-is, height-is, e) refl

        module _ (start : Cell) (start-is : cell_field line 5 fields ≡ Ok start) where
          pub bad_goal : (fault : ScenFault) → cell_field line 7 fields ≡ Err fault → scenario_of line fields ≡ Err fault
          unfolding scenario_of
          bad_goal fault e = rw (nine_is, bucket-is, width-is, height-is, start-is, e) refl

          module _ (goal : Cell) (goal-is : cell_field line 7 fields ≡ Ok goal) where
            pub bad_length : (fault : ScenFault) → number_field line 9 fields ≡ Err fault → scenario_of line fields ≡ Err fault
            unfolding scenario_of
            bad_length fault e = rw (nine_is, bucket-is, width-is, height-is, start-is, goal-is, e) refl

            pub all_good : (nano : ℕ) → number_field line 9 fields ≡ Ok nano
                → scenario_of line fields ≡ Ok (scenario_with fields bucket width height start goal nano)
            unfolding scenario_of
            all_good nano e = rw (nine_is, bucket-is, width-is, height-is, start-is, goal-is, e) refl

-- ---- the parts of a scenario, one after another

module _ (line : ℕ) (text whole : List ℕ) (fields : List (List ℕ)) (found : ℕ) (whole-is : whole ≡ without_gaps_at_end text)
    (fields-are : fields ≡ fields_in whole) (count : found ≡ length (fields_in whole)) (nine : found ≡ 9) where
  same_fields : fields ≡ fields_of text
  same_fields = fields-are ∙ ap fields_in whole-is

  are_nine : length fields ≡ 9
  are_nine = ap (λ (fs : List (List ℕ)). length fs) fields-are ∙ sym count ∙ nine

  abbrev IsRefused : ScenFault → Type 0
  IsRefused fault = scenario_of line (fields_of text) ≡ Err fault

  refused : (fault : ScenFault) → scenario_of line fields ≡ Err fault → IsRefused fault
  refused fault bad = subst (λ (fs : List (List ℕ)). scenario_of line fs ≡ Err fault) same_fields bad

  pub bucket_refused : (fault : ScenFault) → Err fault ≡ next_number line 1 greatest_number fields → IsRefused fault
  bucket_refused fault e = refused fault (bad_bucket line fields are_nine fault (number_left fields fields 0 line 1 greatest_number (Err fault) refl e))

  module _ (bucket : ℕ) (one two : List (List ℕ)) (bucket-read : Ok bucket ≡ next_number line 1 greatest_number fields)
      (one-is : one ≡ drop 1 fields) (two-is : two ≡ drop 1 one) where
    bucket-is : number_field line 1 fields ≡ Ok bucket
    bucket-is = number_left fields fields 0 line 1 greatest_number (Ok bucket) refl bucket-read

    after_two : AreLeft fields 2 two
    after_two = left_next fields one two 1 1 one-is two-is

    pub width_refused : (fault : ScenFault) → Err fault ≡ next_number line 3 greatest_number two → IsRefused fault
    width_refused fault e =
        refused fault (bad_width line fields are_nine bucket bucket-is fault (number_left fields two 2 line 3 greatest_number (Err fault) after_two e))

    module _ (width : ℕ) (three : List (List ℕ)) (width-read : Ok width ≡ next_number line 3 greatest_number two) (three-is : three ≡ drop 1 two) where
      width-is : number_field line 3 fields ≡ Ok width
      width-is = number_left fields two 2 line 3 greatest_number (Ok width) after_two width-read

      after_three : AreLeft fields 3 three
      after_three = left_next fields two three 2 1 after_two three-is

      pub height_refused : (fault : ScenFault) → Err fault ≡ next_number line 4 greatest_number three → IsRefused fault
      height_refused fault e =
          let bad = number_left fields three 3 line 4 greatest_number (Err fault) after_three e in
          refused fault (bad_height line fields are_nine bucket bucket-is width width-is fault bad)

      module _ (height : ℕ) (four : List (List ℕ)) (height-read : Ok height ≡ next_number line 4 greatest_number three) (four-is : four ≡ drop 1 three) where
        height-is : number_field line 4 fields ≡ Ok height
        height-is = number_left fields three 3 line 4 greatest_number (Ok height) after_three height-read

        after_four : AreLeft fields 4 four
        after_four = left_next fields three four 3 1 after_three four-is

        pub start_refused : (fault : ScenFault) → Err fault ≡ next_cell line 5 four → IsRefused fault
        start_refused fault e =
            let bad = cell_left fields four 4 line 5 (Err fault) after_four e in
            refused fault (bad_start line fields are_nine bucket bucket-is width width-is height height-is fault bad)

        module _ (start : Cell) (six : List (List ℕ)) (start-read : Ok start ≡ next_cell line 5 four) (six-is : six ≡ drop 2 four) where
          start-is : cell_field line 5 fields ≡ Ok start
          start-is = cell_left fields four 4 line 5 (Ok start) after_four start-read

          after_six : AreLeft fields 6 six
          after_six = left_next fields four six 4 2 after_four six-is

          pub goal_refused : (fault : ScenFault) → Err fault ≡ next_cell line 7 six → IsRefused fault
          goal_refused fault e =
              let bad = cell_left fields six 6 line 7 (Err fault) after_six e in
              refused fault (bad_goal line fields are_nine bucket bucket-is width width-is height height-is start start-is fault bad)

          module _ (goal : Cell) (eight : List (List ℕ)) (goal-read : Ok goal ≡ next_cell line 7 six) (eight-is : eight ≡ drop 2 six) where
            goal-is : cell_field line 7 fields ≡ Ok goal
            goal-is = cell_left fields six 6 line 7 (Ok goal) after_six goal-read

            after_eight : AreLeft fields 8 eight
            after_eight = left_next fields six eight 6 2 after_six eight-is

            pub length_refused : (fault : ScenFault) → Err fault ≡ next_length line eight → IsRefused fault
            length_refused fault e =
                let bad = length_left fields eight 8 line (Err fault) after_eight e in
                refused fault (bad_length line fields are_nine bucket bucket-is width width-is height height-is start start-is goal goal-is fault bad)

            pub all_read : (name : List ℕ) (nano : ℕ) → name ≡ get_or one 0 [] → Ok nano ≡ next_length line eight
                → scenario_of line (fields_of text)
                ≡ Ok (record { bucket = bucket; name = name; width = width; height = height; start = start; goal = goal; nano = nano })
            all_read name nano name-is e =
                let nano-is = length_left fields eight 8 line (Ok nano) after_eight e in
                let good = all_good line fields are_nine bucket bucket-is width width-is height height-is start start-is goal goal-is nano nano-is in
                rw (field_left fields one 1 name one-is name-is, ← same_fields) good

-- ---- the first line

pub version_told : (line name number : List ℕ) → two_of (words_of line) ≡ Some (name, number) → bytes_eq name (codes "version") ≡ true
    → is_version_line line ≡ says_one number
version_told line name number two first =
    rw (has_two_yes line name number (codes "version") (codes "1") two first, has_two_yes line name number (codes "version") (codes "1.0") two first) refl

pub version_other : (line name number : List ℕ) → two_of (words_of line) ≡ Some (name, number) → bytes_eq name (codes "version") ≡ false → is_version_line line ≡ false
version_other line name number two other =
    rw (has_two_no line name number (codes "version") (codes "1") two other, has_two_no line name number (codes "version") (codes "1.0") two other) refl

pub version_none : (line : List ℕ) → two_of (words_of line) ≡ None → is_version_line line ≡ false
version_none line none = rw (has_not_two line (codes "version") (codes "1") none, has_not_two line (codes "version") (codes "1.0") none) refl
