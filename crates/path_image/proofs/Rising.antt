-- Words whose runs start at 0 and rise.
use Rattle.std.proofs.Common.{◌≡◌, ℕ, ◌+◌, ◌/◌, ◌<◌, List, length, map, get_or, ap, ◌∙◌, arith}
use Rattle.std.proofs.lemmas.List.{get_or-map, length-map}
use Rattle.run_pack.specs.Runs.{Rises, run_of_word, start_at, starts_of, no_run}
use Rattle.run_pack.proofs.RowLemmas.{get_or-starts_of, length-starts_of, start_at-lt}

-- the starts rise as far as that
abbrev pub StartsRise : List ℕ → ℕ → Type 0
StartsRise row upto = (k : ℕ) → k + 1 < upto → get_or row k 0 / 8 < get_or row (k + 1) 0 / 8

start_of_word : (row : List ℕ) (k : ℕ) → k < length row → start_at (map run_of_word row) k ≡ get_or row k 0 / 8
start_of_word row k within = ap (λ run. run.start) (get_or-map run_of_word row k 0 no_run within)

pub rises_all : (row : List ℕ) → 0 < length row → get_or row 0 0 < 8 → StartsRise row (length row) → Rises (map run_of_word row)
rises_all row some first rise = record {
  some = (let size = length-map row run_of_word in omega arith);
  first = (let at = start_of_word row 0 some in omega arith);
  rising = λ k inside.
      (let size : length (starts_of (map run_of_word row)) ≡ length row = length-starts_of (map run_of_word row) ∙ length-map row run_of_word in
      let long = length-map row run_of_word in
      let one = get_or-starts_of (map run_of_word row) k 0 (omega arith) ∙ start_of_word row k (omega arith) in
      let two = get_or-starts_of (map run_of_word row) (k + 1) 0 (omega arith) ∙ start_of_word row (k + 1) (omega arith) in
      let less = rise k (omega arith) in
      omega arith);
}

-- and what else would be no row
pub record IsRising (row : List ℕ) : Type 0 where
  pub some : 0 < length row
  pub first : get_or row 0 0 < 8
  pub rise : StartsRise row (length row)

pub rises_needs : (row : List ℕ) → Rises (map run_of_word row) → IsRising row
rises_needs row rises =
    let size = length-map row run_of_word in
    let some : 0 < length row = (let s = rises.some in omega arith) in
    record {
      some = some;
      first = (let at = start_of_word row 0 some in let zero_first = rises.first in omega arith);
      rise = λ k inside.
          (let less = start_at-lt (map run_of_word row) rises k (omega arith) in
          let one = start_of_word row k (omega arith) in
          let two = start_of_word row (k + 1) (omega arith) in
          omega arith);
    }
