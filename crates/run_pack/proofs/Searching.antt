-- What the binary search keeps.
use Rattle.std.proofs.Common.{◌≡◌, ℕ, zero, suc, ◌+◌, ◌-◌, ◌*◌, ◌^◌, ◌/◌, ◌<◌, ◌≤◌, List, length, slice_index_or, arith, refl, ap, add-one}
use Rattle.std.proofs.Math.Nat.{mul-le-mul_left, pow-succ'}
use Rattle.run_pack.specs.declared.Run.{Run}
use Rattle.run_pack.specs.Runs.{start_at, move_at, no_run, Rises, IsMoveFor}
use Rattle.run_pack.proofs.RowLemmas.{start_at-le}

-- Of `all` runs, `width` are still open after `taken` probes.
pub record IsWithinBudget (all width taken : ℕ) : Type 0 where
  pub halved : 2 ^ taken * width ≤ all
  pub spent : 2 ^ taken ≤ 2 * all + 1

pub within_budget_first : (all : ℕ) → IsWithinBudget all all 0
within_budget_first all = record { halved = omega arith; spent = omega arith }

pub within_budget_more : (all width rest taken : ℕ) → IsWithinBudget all width taken → 0 < width → rest + rest ≤ width → IsWithinBudget all rest (taken + 1)
within_budget_more all width rest taken budget some half =
    let power : 2 ^ (taken + 1) ≡ 2 * 2 ^ taken = rw add-one (pow-succ' 2 taken) in
    let wide : 2 ^ taken * (rest + rest) ≤ 2 ^ taken * width = mul-le-mul_left (2 ^ taken) half in
    let open_one : 1 ≤ width = omega arith in
    let one : 2 ^ taken * 1 ≤ 2 ^ taken * width = mul-le-mul_left (2 ^ taken) open_one in
    record {
      halved = rw power (omega (arith, budget.halved));
      spent = rw power (omega (arith, budget.halved));
    }

-- Runs before `low` start at the place or before it, and those from `high` on start after it.
pub record IsSearching (runs : List Run) (place found low high old new : ℕ) : Type 0 where
  pub order : low ≤ high
  pub within : high ≤ length runs
  pub below : (k : ℕ) → k + 1 ≡ low → (start_at runs k ≤ place) × (found ≡ move_at runs k)
  pub above : (k : ℕ) → high ≤ k → k < length runs → place < start_at runs k
  pub counted : old ≤ new
  pub budget : IsWithinBudget (length runs) (high - low) (new - old)

pub searching_first : (runs : List Run) (place found old : ℕ) → IsSearching runs place found 0 (length runs) old old
searching_first runs place found old = record {
  order = omega arith;
  within = omega arith;
  below = λ k e. absurd (omega arith);
  above = λ k past within. absurd (omega arith);
  counted = omega arith;
  budget =
      let none : old - old ≡ 0 = omega arith in
      let all : length runs - 0 ≡ length runs = omega arith in
      rw (none, all) (within_budget_first (length runs));
}

-- what is left to search, after one more probe
budget_more : (all low high low' high' old new : ℕ) → IsWithinBudget all (high - low) (new - old) → old ≤ new → low < high
    → (high' - low') + (high' - low') ≤ high - low → IsWithinBudget all (high' - low') (new + 1 - old)
budget_more all low high low' high' old new budget counted some half =
    let one : new + 1 - old ≡ new - old + 1 = omega arith in
    rw one (within_budget_more all (high - low) (high' - low') (new - old) budget (omega arith) half)

module _ (runs : List Run) (place found low high old new middle : ℕ) (rises : Rises runs)
    (s : IsSearching runs place found low high old new) (some : low < high) (mid : middle ≡ low + (high - low) / 2) where
  -- the run in the middle starts at the place or before it
  searching_right_of : start_at runs middle ≤ place → IsSearching runs place (move_at runs middle) (middle + 1) high old (new + 1)
  searching_right_of reached =
      let inside : middle < high = omega arith in
      record {
        order = omega arith;
        within = s.within;
        below = λ k e. (let same : middle ≡ k = omega arith in rw (← same) (reached, refl));
        above = s.above;
        counted = omega (arith, s.counted);
        budget = budget_more (length runs) low high (middle + 1) high old new s.budget s.counted some (omega arith);
      }

  pub searching_right : (run : Run) (now : ℕ) → run ≡ slice_index_or runs middle no_run → now ≡ new + 1 → run.start ≤ place → IsSearching runs place run.mv (middle + 1) high old now
  searching_right run now read counted reached =
      let start : run.start ≡ start_at runs middle = ap (λ run. run.start) read in
      let move : run.mv ≡ move_at runs middle = ap (λ run. run.mv) read in
      let reached' : start_at runs middle ≤ place = omega arith in
      rw (move, counted) (searching_right_of reached')

  -- the run in the middle starts after the place
  searching_left_of : place < start_at runs middle → IsSearching runs place found low middle old (new + 1)
  searching_left_of after =
      let inside : middle < high = omega arith in
      record {
        order = omega arith;
        within = omega (arith, s.within);
        below = s.below;
        above = λ k past within. omega (arith, start_at-le runs rises middle k past within);
        counted = omega (arith, s.counted);
        budget = budget_more (length runs) low high low middle old new s.budget s.counted some (omega arith);
      }

  pub searching_left : (run : Run) (now : ℕ) → run ≡ slice_index_or runs middle no_run → now ≡ new + 1 → place < run.start → IsSearching runs place found low middle old now
  searching_left run now read counted after =
      let start : run.start ≡ start_at runs middle = ap (λ run. run.start) read in
      let after' : place < start_at runs middle = omega arith in
      rw counted (searching_left_of after')

-- nothing is left to search
pub found_at_end : (runs : List Run) (place found low high old new : ℕ) → Rises runs → IsSearching runs place found low high old new → high ≤ low → IsMoveFor runs place found
found_at_end runs place found zero high old new rises s done =
    absurd (omega (arith, s.above 0 (omega arith) rises.some, rises.first))
found_at_end runs place found (suc k) high old new rises s done =
    let at = s.below k (omega arith) in
    record {
      run = k;
      last = record {
        within = omega (arith, s.within, s.order);
        reached = at.0;
        last = λ later order within. s.above later (omega arith) within;
      };
      is = at.1;
    }
