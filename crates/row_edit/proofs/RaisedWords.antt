-- The runs of words that are raised, and of words that are joined.
use Rattle.std.proofs.Common.{◌≡◌, refl, ℕ, ◌+◌, ◌-◌, ◌/◌, ◌%◌, ◌^◌, ◌<◌, ◌≤◌, List, [], ◌∷◌, ◌++◌, length, map, take, drop, get_or, All, arith, ap, sym, subst}
use Rattle.std.proofs.lemmas.List.{map-append, take-map, drop-map, get_or-map, get_or-drop, length-map, length-drop}
use Rattle.std.proofs.lemmas.List.Elements.{All-head, All-tail, All-from_get_or}
use Rattle.run_pack.specs.declared.Run.{Run}
use Rattle.run_pack.specs.Runs.{start_at, no_run, run_of_word, Rises}
use Rattle.run_pack.proofs.RowLemmas.{same_runs, start_at-le}
use Rattle.row_edit.specs.Parts.{raised, one_less}
use Rattle.row_edit.proofs.Moved.{earlier, later}

-- a word that can be raised by less than nothing, and one that can be raised
abbrev pub CanSink : ℕ → Type 0
CanSink word = (8 ≤ word) × (word < 2 ^ 32)

abbrev pub CanRise : ℕ → Type 0
CanRise word = word + 8 < 2 ^ 32

run-earlier : (word : ℕ) → CanSink word → run_of_word ((word + one_less) % 2 ^ 32) ≡ earlier (run_of_word word)
run-earlier word can =
    let low = can.0 in
    let high = can.1 in
    let start : (word + one_less) % 2 ^ 32 / 8 ≡ word / 8 - 1 = omega arith in
    let move : (word + one_less) % 2 ^ 32 % 8 ≡ word % 8 = omega arith in
    same_runs (run_of_word ((word + one_less) % 2 ^ 32)) (earlier (run_of_word word)) start move

run-later : (word : ℕ) → CanRise word → run_of_word ((word + 8) % 2 ^ 32) ≡ later (run_of_word word)
run-later word can =
    let start : (word + 8) % 2 ^ 32 / 8 ≡ word / 8 + 1 = omega arith in
    let move : (word + 8) % 2 ^ 32 % 8 ≡ word % 8 = omega arith in
    same_runs (run_of_word ((word + 8) % 2 ^ 32)) (later (run_of_word word)) start move

pub runs-earlier : (words : List ℕ) → All CanSink words → map run_of_word (raised one_less words) ≡ map earlier (map run_of_word words)
runs-earlier [] all = refl
runs-earlier (word ∷ words) all =
    rw (run-earlier word (All-head CanSink word words all), runs-earlier words (All-tail CanSink word words all)) refl

pub runs-later : (words : List ℕ) → All CanRise words → map run_of_word (raised 8 words) ≡ map later (map run_of_word words)
runs-later [] all = refl
runs-later (word ∷ words) all =
    rw (run-later word (All-head CanRise word words all), runs-later words (All-tail CanRise word words all)) refl

-- the start of a word's run
pub start-word : (words : List ℕ) (k : ℕ) → k < length words → start_at (map run_of_word words) k ≡ get_or words k 0 / 8
start-word words k inside = ap (λ run. run.start) (get_or-map run_of_word words k 0 no_run inside)

-- a property of all words from a run on
All-behind : (P : ℕ → Type 0) (words : List ℕ) (back : ℕ) → ((k : ℕ) → back ≤ k → k < length words → P (get_or words k 0)) → All P (drop back words)
All-behind P words back each =
    let size = length-drop back words in
    All-from_get_or P (drop back words) 0 (λ k within. subst P (sym (get_or-drop back words k 0)) (each (back + k) (omega arith) (omega arith)))

-- behind a run that starts after the first place, all words can sink
pub sinking : (words : List ℕ) (back : ℕ) → Rises (map run_of_word words) → ((k : ℕ) → get_or words k 0 < 2 ^ 32)
    → (back < length words → 0 < start_at (map run_of_word words) back) → All CanSink (drop back words)
sinking words back rises fits late =
    let size = length-map words run_of_word in
    All-behind CanSink words back (λ k behind inside.
    (let order : start_at (map run_of_word words) back ≤ start_at (map run_of_word words) k = start_at-le (map run_of_word words) rises back k behind (omega arith) in
    let first = late (omega arith) in
    let read = start-word words k inside in
    (omega arith, fits k)))

-- where all runs start before a place that a word can hold twice over, all words can rise
pub rising_words : (words : List ℕ) (back : ℕ) → ((k : ℕ) → k < length words → start_at (map run_of_word words) k < 2 ^ 15) → All CanRise (drop back words)
rising_words words back starts =
    All-behind CanRise words back (λ k behind inside. (let low = starts k inside in let read = start-word words k inside in omega arith))

-- the runs of words that are joined
pub runs-joined : (words own raised_words : List ℕ) (front back : ℕ) (moved : Run → Run) → map run_of_word raised_words ≡ map moved (map run_of_word (drop back words))
    → map run_of_word (take front words ++ (own ++ raised_words)) ≡ take front (map run_of_word words) ++ (map run_of_word own ++ map moved (drop back (map run_of_word words)))
runs-joined words own raised_words front back moved same =
    rw (map-append run_of_word (take front words) (own ++ raised_words), map-append run_of_word own raised_words, same, take-map run_of_word front words, drop-map run_of_word back words) refl
