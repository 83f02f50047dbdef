-- Where the runs of a row start.
use Rattle.std.proofs.Common.{◌≡◌, refl, ℕ, zero, suc, ◌+◌, ◌<◌, ◌≤◌, List, length, get_or, ◌-◌, arith, inl, inr}
use Rattle.std.specs.List.Sorted.{IsStrictlyIncreasing}
use Rattle.std.proofs.lemmas.Bool.{cases_lt}
use Rattle.std.proofs.lemmas.List.{get_or-map, length-map, get_or_past}
use Rattle.run_pack.specs.declared.Run.{Run}
use Rattle.run_pack.specs.Runs.{starts_of, start_at, end_at, no_run, Rises, IsRow}

-- a run is its start and its move
abbrev run_with : ℕ → ℕ → Run
run_with start move = record { start = start; mv = move }

pub same_runs : (a b : Run) → a.start ≡ b.start → a.mv ≡ b.mv → a ≡ b
same_runs a b start move =
    let same : run_with a.start a.mv ≡ run_with b.start b.mv = rw (start, move) refl in
    same

-- the list of starts has one for each run
pub length-starts_of : (runs : List Run) → length (starts_of runs) ≡ length runs
length-starts_of runs = length-map runs (λ run. run.start)

-- the list of starts, read at a run
pub get_or-starts_of : (runs : List Run) (k d : ℕ) → k < length runs → get_or (starts_of runs) k d ≡ start_at runs k
get_or-starts_of runs k d within = get_or-map (λ run. run.start) runs k no_run d within

-- a list that rises from each number to the next rises over any distance
increasing_far : (xs : List ℕ) → IsStrictlyIncreasing xs → (i more : ℕ) → i + more < length xs → get_or xs i 0 ≤ get_or xs (i + more) 0
increasing_far xs up i zero within =
    let same : i + 0 ≡ i = omega arith in
    rw same (omega arith)
increasing_far xs up i (suc more) within =
    let before : get_or xs i 0 ≤ get_or xs (i + more) 0 = increasing_far xs up i more (omega arith) in
    let step : get_or xs (i + more) 0 < get_or xs (i + more + 1) 0 = up (i + more) (omega arith) in
    let same : i + suc more ≡ i + more + 1 = omega arith in
    rw same (omega arith)

-- a later run starts no earlier
pub start_at-le : (runs : List Run) → Rises runs → (i j : ℕ) → i ≤ j → j < length runs → start_at runs i ≤ start_at runs j
start_at-le runs rises i j order within =
    let size = length-starts_of runs in
    let far : get_or (starts_of runs) i 0 ≤ get_or (starts_of runs) (i + (j - i)) 0 =
    increasing_far (starts_of runs) rises.rising i (j - i) (omega arith) in
    let same : i + (j - i) ≡ j = omega arith in
    let far' = rw same at far in
    omega (arith, get_or-starts_of runs i 0 (omega arith), get_or-starts_of runs j 0 within)

-- each run but the last starts before the next
pub start_at-lt : (runs : List Run) → Rises runs → (k : ℕ) → k + 1 < length runs → start_at runs k < start_at runs (k + 1)
start_at-lt runs rises k within =
    let size = length-starts_of runs in
    let step : get_or (starts_of runs) k 0 < get_or (starts_of runs) (k + 1) 0 = rises.rising k (omega arith) in
    omega (arith, get_or-starts_of runs k 0 (omega arith), get_or-starts_of runs (k + 1) 0 within)

-- where run `k` starts, or the number of places where there is no such run
abbrev pub border : List Run → ℕ → ℕ → ℕ
border runs places k = get_or (starts_of runs) k places

pub border_past : (runs : List Run) (places k : ℕ) → length runs ≤ k → border runs places k ≡ places
border_past runs places k past =
    let size = length-starts_of runs in
    get_or_past (starts_of runs) k places (omega arith)

-- a row whose starts rise to the number of places is a row over these places
pub row_from_borders : (runs : List Run) (places : ℕ) → 0 < length runs → start_at runs 0 ≡ 0 → ((k : ℕ) → k < length runs → start_at runs k < end_at runs places k) → IsRow runs places
row_from_borders runs places some first each =
    let size = length-starts_of runs in
    let rises : Rises runs = record {
      some = some;
      first = first;
      rising = λ k within.
          (let here : start_at runs k < border runs places (k + 1) = each k (omega arith) in
          omega (arith, get_or-starts_of runs k 0 (omega arith), get_or-starts_of runs (k + 1) 0 (omega arith), get_or-starts_of runs (k + 1) places (omega arith)));
    } in
    let last : start_at runs (length runs - 1) < border runs places (length runs - 1 + 1) = each (length runs - 1) (omega arith) in
    let end = border_past runs places (length runs - 1 + 1) (omega arith) in
    record {
      rises = rises;
      inside = λ k d within.
          omega (arith, get_or-starts_of runs k d (omega arith), start_at-le runs rises k (length runs - 1) (omega arith) (omega arith));
    }

-- each run of a row starts inside it
pub start_at-inside : (runs : List Run) (places : ℕ) → IsRow runs places → (k : ℕ) → k < length runs → start_at runs k < places
start_at-inside runs places row k within =
    let size = length-starts_of runs in
    let inside : get_or (starts_of runs) k 0 < places = row.inside k 0 (omega arith) in
    omega (arith, get_or-starts_of runs k 0 within)

pub border-le : (runs : List Run) (places : ℕ) → IsRow runs places → (k : ℕ) → border runs places k ≤ places
border-le runs places row k =
    elim (cases_lt k (length runs)) [
      | inl within ↦ omega (arith, get_or-starts_of runs k places within, start_at-inside runs places row k within)
      | inr past ↦ omega (arith, border_past runs places k past)
    ]

-- each run of a row covers a place
pub start_at-before_end : (runs : List Run) (places : ℕ) → IsRow runs places → (k : ℕ) → k < length runs → start_at runs k < end_at runs places k
start_at-before_end runs places row k within =
    elim (cases_lt (k + 1) (length runs)) [
      | inl more ↦ omega (arith, get_or-starts_of runs (k + 1) places more, start_at-lt runs row.rises k more)
      | inr last ↦ omega (arith, border_past runs places (k + 1) last, start_at-inside runs places row k within)
    ]

-- a run starts no earlier than its number
start_at-from : (runs : List Run) → Rises runs → (k : ℕ) → k < length runs → k ≤ start_at runs k
start_at-from runs rises zero within = omega arith
start_at-from runs rises (suc k) within =
    let step : start_at runs k < start_at runs (k + 1) = start_at-lt runs rises k (omega arith) in
    let before = start_at-from runs rises k (omega arith) in
    let same : suc k ≡ k + 1 = omega arith in
    rw same (omega arith)

-- a row has no more runs than places
pub length-row : (runs : List Run) (places : ℕ) → IsRow runs places → length runs ≤ places
length-row runs places row =
    let some = row.rises.some in
    omega (arith, start_at-from runs row.rises (length runs - 1) (omega arith), start_at-inside runs places row (length runs - 1) (omega arith))
