-- Runs as words.
use Rattle.std.proofs.Common.{◌≡◌, ℕ, ◌+◌, ◌*◌, ◌/◌, ◌%◌, ◌<◌, List, length, map, get_or, All, arith, ap}
use Rattle.std.proofs.lemmas.List.{same_lists, get_or-map, length-map}
use Rattle.std.proofs.lemmas.List.Elements.{All-from_get_or}
use Rattle.run_pack.specs.declared.Run.{Run}
use Rattle.run_pack.specs.Runs.{no_run, IsTight, IsFound, word_of, run_of_word}
use Rattle.run_pack.proofs.RowLemmas.{same_runs, start_at-inside}

-- a word stands for the run that it was made of
pub run_of_word-word_of : (run : Run) → run.mv < 8 → run_of_word (word_of run) ≡ run
run_of_word-word_of run small =
    let start : (run.start * 8 + run.mv) / 8 ≡ run.start = omega arith in
    let move : (run.start * 8 + run.mv) % 8 ≡ run.mv = omega arith in
    same_runs (run_of_word (word_of run)) run start move

-- and is the word of the run that it stands for
pub word_of-run_of_word : (word : ℕ) → word_of (run_of_word word) ≡ word
word_of-run_of_word word = omega arith

-- so a row comes back from its words
pub map-run_of_word : (runs : List Run) → All (λ run. run.mv < 8) runs → map run_of_word (map word_of runs) ≡ runs
map-run_of_word runs small =
    let words = length-map runs word_of in
    let back = length-map (map word_of runs) run_of_word in
    same_lists (map run_of_word (map word_of runs)) runs (omega arith) (λ k d within.
    (let inside : k < length runs = omega arith in
    let outer = get_or-map run_of_word (map word_of runs) k 0 d (omega arith) in
    let inner = get_or-map word_of runs k d 0 inside in
    let same = run_of_word-word_of (get_or runs k d) (small k d inside) in
    rw (outer, inner) same))

-- each run of a tight row can be kept in a word
pub All-move_below : (runs : List Run) (sets : List ℕ) → IsTight runs sets → All (λ run. run.mv < 8) runs
All-move_below runs sets tight =
    All-from_get_or (λ run. run.mv < 8) runs no_run (λ k within. (tight.least k within).common.number)

pub All-start_below : (runs : List Run) (sets : List ℕ) → IsTight runs sets → All (λ run. run.start < length sets) runs
All-start_below runs sets tight =
    All-from_get_or (λ run. run.start < length sets) runs no_run (λ k within. start_at-inside runs (length sets) tight.row k within)

-- a move that is found in words is one of the eight
pub move_in_words : (words : List ℕ) (place move : ℕ) → IsFound (map run_of_word words) place move → move < 8
move_in_words words place move found =
    let size = length-map words run_of_word in
    let within : found.last.run < length words = omega (arith, found.last.last.within) in
    let read = get_or-map run_of_word words found.last.run 0 no_run within in
    let is : move ≡ (get_or (map run_of_word words) found.last.run no_run).mv = found.last.is in
    let mv : (get_or (map run_of_word words) found.last.run no_run).mv ≡ get_or words found.last.run 0 % 8 = ap (λ run. run.mv) read in
    omega arith
