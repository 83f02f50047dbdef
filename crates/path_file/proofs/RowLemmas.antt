-- Rows that grow by a run.
use Rattle.std.proofs.Common.{◌≡◌, ◌↔◌, ℕ, ◌+◌, ◌-◌, ◌/◌, ◌%◌, ◌<◌, ◌≤◌, false, eqb, ltb, List, [], ◌∷◌, ◌++◌, length, get_or, map, All, refl, sym, ap, ◌∙◌, inl, inr, arith}
use Rattle.std.specs.Bool.{IsTrue}
use Rattle.std.proofs.lemmas.Bool.{cases_lt, eq-eqb, false≢true, lt-ltb, ltb-true}
use Rattle.std.proofs.lemmas.List.{get_or_append_left, get_or_push, get_or-map, length_push, length-map}
use Rattle.std.proofs.lemmas.List.Elements.{All-push}
use Rattle.run_pack.specs.declared.Run.{Run}
use Rattle.run_pack.specs.Runs.{IsRow, no_run, run_of_word, start_at}
use Rattle.run_pack.proofs.RowLemmas.{get_or-starts_of, length-starts_of, start_at-inside, start_at-lt}
use Rattle.path_file.specs.Fields.{IsFileRow}

-- a row by where its runs start
pub row_from_starts : (runs : List Run) (places : ℕ) → 0 < length runs → start_at runs 0 ≡ 0
    → ((k : ℕ) → k + 1 < length runs → start_at runs k < start_at runs (k + 1)) → ((k : ℕ) → k < length runs → start_at runs k < places)
    → IsRow runs places
row_from_starts runs places some first rising inside =
    let size = length-starts_of runs in
    record {
      rises = record {
        some = some;
        first = first;
        rising = λ k within.
            (let step = rising k (omega arith) in
            omega (arith, get_or-starts_of runs k 0 (omega arith), get_or-starts_of runs (k + 1) 0 (omega arith)));
      };
      inside = λ k d within.
          (let there = inside k (omega arith) in
          omega (arith, get_or-starts_of runs k d (omega arith)));
    }

-- where a run starts in a longer list
start-before : (runs : List Run) (run : Run) (k : ℕ) → k < length runs → start_at (runs ++ run ∷ []) k ≡ start_at runs k
start-before runs run k within = ap (λ (r : Run). r.start) (get_or_append_left runs (run ∷ []) no_run k within)

start-last : (runs : List Run) (run : Run) (k : ℕ) → length runs ≡ k → start_at (runs ++ run ∷ []) k ≡ run.start
start-last runs run k at = ap (λ (r : Run). r.start) (get_or_push runs run no_run k at)

pub row_first : (runs : List Run) (run : Run) (places : ℕ) → length runs ≡ 0 → run.start ≡ 0 → run.start < places → IsRow (runs ++ run ∷ []) places
row_first runs run places none first inside =
    let size = length_push runs run in
    row_from_starts (runs ++ run ∷ []) places (omega arith) (start-last runs run 0 none ∙ first) (λ k within. absurd (omega arith))
    (λ k within.
    let zero_is : length runs ≡ k = omega arith in
    omega (arith, start-last runs run k zero_is))

pub row_later : (runs : List Run) (run : Run) (places : ℕ) → IsRow runs places → start_at runs (length runs - 1) < run.start → run.start < places
    → IsRow (runs ++ run ∷ []) places
row_later runs run places row later inside =
    let size = length_push runs run in
    let some = row.rises.some in
    row_from_starts (runs ++ run ∷ []) places (omega arith) (start-before runs run 0 some ∙ row.rises.first)
    (λ k within.
    elim (cases_lt (k + 1) (length runs)) [
      | inl before ↦ omega (arith, start-before runs run k (omega arith), start-before runs run (k + 1) before, start_at-lt runs row.rises k before)
      | inr last ↦
          let end : length runs ≡ k + 1 = omega arith in
          let here : length runs - 1 ≡ k = omega arith in
          omega (arith, start-before runs run k (omega arith), start-last runs run (k + 1) end, ap (start_at runs) here)
    ])
    (λ k within.
    elim (cases_lt k (length runs)) [
      | inl before ↦ omega (arith, start-before runs run k before, start_at-inside runs places row k before)
      | inr last ↦
          let end : length runs ≡ k = omega arith in
          omega (arith, start-last runs run k end)
    ])

pub row_inside : (runs : List Run) (run : Run) (places : ℕ) → IsRow (runs ++ run ∷ []) places → run.start < places
row_inside runs run places row =
    omega (arith, length_push runs run, start-last runs run (length runs) refl, start_at-inside (runs ++ run ∷ []) places row (length runs) (omega (arith, length_push runs run)))

pub row_begins : (runs : List Run) (run : Run) (places : ℕ) → length runs ≡ 0 → IsRow (runs ++ run ∷ []) places → run.start ≡ 0
row_begins runs run places none row = sym (start-last runs run 0 none) ∙ row.rises.first

pub row_rises : (runs : List Run) (run : Run) (places : ℕ) → 0 < length runs → IsRow (runs ++ run ∷ []) places → start_at runs (length runs - 1) < run.start
row_rises runs run places some row =
    let size = length_push runs run in
    let last : length runs - 1 + 1 ≡ length runs = omega arith in
    let step = start_at-lt (runs ++ run ∷ []) row.rises (length runs - 1) (omega arith) in
    omega (arith, step, ap (start_at (runs ++ run ∷ [])) last, start-before runs run (length runs - 1) (omega arith), start-last runs run (length runs) refl)

-- the runs of words have numbers of moves
moves_of_words : (words : List ℕ) → All (λ run. run.mv < 8) (map run_of_word words)
moves_of_words words k d within =
    let size = length-map words run_of_word in
    let at = get_or-map run_of_word words k 0 d (omega arith) in
    let move : (get_or (map run_of_word words) k d).mv ≡ get_or words k 0 % 8 = ap (λ (r : Run). r.mv) at in
    omega arith

last_start : (words : List ℕ) (last : ℕ) → 0 < length words → get_or words (length words - 1) 0 ≡ last
    → start_at (map run_of_word words) (length (map run_of_word words) - 1) ≡ last / 8
last_start words last some is =
    let size = length-map words run_of_word in
    let here : length (map run_of_word words) - 1 ≡ length words - 1 = omega arith in
    ap (start_at (map run_of_word words)) here
    ∙ ap (λ (r : Run). r.start) (get_or-map run_of_word words (length words - 1) 0 no_run (omega arith)) ∙ ap (λ (w : ℕ). w / 8) is

pub moves_pushed : (words : List ℕ) (word : ℕ) → All (λ run. run.mv < 8) (map run_of_word words ++ run_of_word word ∷ [])
moves_pushed words word = All-push (λ (run : Run). run.mv < 8) (map run_of_word words) (run_of_word word) (moves_of_words words) (omega arith)

pub first_goes_on : (words : List ℕ) (word cells : ℕ) → length words ≡ 0 → word / 8 ≡ 0 → word / 8 < cells
    → IsFileRow cells (map run_of_word words ++ run_of_word word ∷ [])
first_goes_on words word cells none first inside = record {
  is_row = row_first (map run_of_word words) (run_of_word word) cells (length-map words run_of_word ∙ none) first inside;
  moves = moves_pushed words word;
}

pub first_start : (words : List ℕ) (word cells : ℕ) → length words ≡ 0 → IsFileRow cells (map run_of_word words ++ run_of_word word ∷ []) → word / 8 ≡ 0
first_start words word cells none row = row_begins (map run_of_word words) (run_of_word word) cells (length-map words run_of_word ∙ none) row.is_row

pub start_inside : (words : List ℕ) (word cells : ℕ) → IsFileRow cells (map run_of_word words ++ run_of_word word ∷ []) → word / 8 < cells
start_inside words word cells row = row_inside (map run_of_word words) (run_of_word word) cells row.is_row

pub later_goes_on : (words : List ℕ) (word cells last : ℕ) → 0 < length words → get_or words (length words - 1) 0 ≡ last
    → IsFileRow cells (map run_of_word words) → last / 8 < word / 8 → word / 8 < cells
    → IsFileRow cells (map run_of_word words ++ run_of_word word ∷ [])
later_goes_on words word cells last some is row later inside =
    let start = last_start words last some is in
    record {
      is_row = row_later (map run_of_word words) (run_of_word word) cells row.is_row (omega arith) inside;
      moves = moves_pushed words word;
    }

pub later_start : (words : List ℕ) (word cells last : ℕ) → 0 < length words → get_or words (length words - 1) 0 ≡ last
    → IsFileRow cells (map run_of_word words ++ run_of_word word ∷ []) → last / 8 < word / 8
later_start words word cells last some is row =
    let start = last_start words last some is in
    let size = length-map words run_of_word in
    let rises = row_rises (map run_of_word words) (run_of_word word) cells (omega arith) row.is_row in
    omega arith

-- whether a word goes on behind the last one, by what the test says
module _ (words : List ℕ) (word cells : ℕ) (some : false ≡ eqb (length words) 0) where
  not_empty : 0 < length words
  not_empty = elim (cases_lt 0 (length words)) [
    | inl more ↦ more
    | inr none ↦ (let zero_long : length words ≡ 0 = omega arith in absurd (false≢true (some ∙ eq-eqb (length words) 0 zero_long)))
  ]

  pub goes_on_yes : (0 < length words → IsFileRow cells (map run_of_word words)) → get_or words (length words - 1) 0 / 8 < word / 8
      → (IsTrue (ltb (word / 8) cells) ↔ IsFileRow cells (map run_of_word words ++ run_of_word word ∷ []))
  goes_on_yes row later = (
    λ inside. later_goes_on words word cells (get_or words (length words - 1) 0) not_empty refl (row not_empty) later (ltb-true (word / 8) cells inside),
    λ longer. lt-ltb (word / 8) cells (start_inside words word cells longer),
  )

  pub goes_on_no : word / 8 ≤ get_or words (length words - 1) 0 / 8
      → (IsTrue (ltb (get_or words (length words - 1) 0 / 8) (word / 8)) ↔ IsFileRow cells (map run_of_word words ++ run_of_word word ∷ []))
  goes_on_no early = (
    λ late. (let less = ltb-true (get_or words (length words - 1) 0 / 8) (word / 8) late in absurd (omega arith)),
    λ longer. (let less = later_start words word cells (get_or words (length words - 1) 0) not_empty refl longer in absurd (omega arith)),
  )
