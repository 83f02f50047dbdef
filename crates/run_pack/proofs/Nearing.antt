-- A run that is sought from a guess on.
use Rattle.std.proofs.Common.{◌≡◌, ℕ, zero, suc, ◌+◌, ◌-◌, ◌<◌, ◌≤◌, ◌↔◌, Bool, false, IsTrue, List, length, map, get_or, arith, ap, sym, ◌∙◌, inl, inr}
use Rattle.std.proofs.lemmas.List.{get_or-map, length-map}
use Rattle.run_pack.specs.declared.Run.{Run}
use Rattle.run_pack.specs.Runs.{start_at, no_run, run_of_word, Rises, IsLastUpTo, IsMoveFor}
use Rattle.std.proofs.lemmas.Bool.{cases_lt, iff_false}
use Rattle.run_pack.proofs.RowLemmas.{start_at-le}

-- all runs behind this one start after the place
pub record IsFromAbove (runs : List Run) (place run : ℕ) : Type 0 where
  pub within : run < length runs
  pub later : (k : ℕ) → run < k → k < length runs → place < start_at runs k

pub from_above : (words : List ℕ) (place run : ℕ) → Rises (map run_of_word words) → run < length words
    → (run + 1 < length words → place < start_at (map run_of_word words) (run + 1)) → IsFromAbove (map run_of_word words) place run
from_above words place run rises within next =
    let size = length-map words run_of_word in
    record {
      within = omega arith;
      later = λ k behind inside.
          (let after = next (omega arith) in
          omega (arith, start_at-le (map run_of_word words) rises (run + 1) k (omega arith) inside));
    }

pub one_back : (runs : List Run) (place run : ℕ) → IsFromAbove runs place run → 0 < run → place < start_at runs run → IsFromAbove runs place (run - 1)
one_back runs place run p some after = record {
  within = (let within = p.within in omega arith);
  later = λ k behind inside. elim (cases_lt run k) [
    | inl more ↦ p.later k more inside
    | inr same ↦ (let here : run ≡ k = omega arith in rw (← here) after)
  ];
}

pub last_reached : (runs : List Run) (place run : ℕ) → IsFromAbove runs place run → start_at runs run ≤ place → IsLastUpTo runs place run
last_reached runs place run p reached = record { within = p.within; reached = reached; last = p.later }

within_words : (words : List ℕ) (k : ℕ) → k < length (map run_of_word words) → k < length words
within_words words k inside = (let size = length-map words run_of_word in omega arith)

-- a word whose run does not start by the place has one that starts after it
pub word_after : (words : List ℕ) (place k : ℕ) (by : Bool) → k < length (map run_of_word words)
    → (IsTrue by ↔ (run_of_word (get_or words k 0)).start ≤ place) → by ≡ false → place < start_at (map run_of_word words) k
word_after words place k by inside is none =
    let read = get_or-map run_of_word words k 0 no_run (within_words words k inside) in
    let start : start_at (map run_of_word words) k ≡ (run_of_word (get_or words k 0)).start = ap (λ run. run.start) read in
    elim (cases_lt place (start_at (map run_of_word words) k)) [
      | inl after ↦ after
      | inr before ↦ absurd (iff_false is none (omega arith))
    ]

-- a run that starts after a place is not the first
pub some_before : (runs : List Run) (place run : ℕ) → Rises runs → place < start_at runs run → 0 < run
some_before runs place zero rises after = let first = rises.first in absurd (omega arith)
some_before runs place (suc run) rises after = omega arith

-- the move of a word whose run is the last up to the place
pub move_of_last : (words : List ℕ) (place k : ℕ) (run : Run) → IsLastUpTo (map run_of_word words) place k → run ≡ run_of_word (get_or words k 0)
    → IsMoveFor (map run_of_word words) place run.mv
move_of_last words place k run last is =
    let read = get_or-map run_of_word words k 0 no_run (within_words words k last.within) in
    record { run = k; last = last; is = ap (λ run. run.mv) is ∙ sym (ap (λ run. run.mv) read) }
