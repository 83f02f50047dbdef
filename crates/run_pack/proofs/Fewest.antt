-- A tight row holds for its sets, has the fewest runs, and is the only one. Nothing here knows how a row is made.
use Rattle.std.proofs.Common.{◌≡◌, ℕ, zero, suc, ◌+◌, ◌<◌, ◌≤◌, List, length, get_or, arith, add-one, inl, inr}
use Rattle.std.proofs.lemmas.Bool.{cases_lt}
use Rattle.std.proofs.lemmas.List.{same_lists, get_or_default}
use Rattle.run_pack.specs.declared.Run.{Run}
use Rattle.run_pack.specs.Sets.{IsCommon}
use Rattle.run_pack.specs.Runs.{start_at, move_at, end_at, no_run, Fits, IsTight, HasFewest, IsOnlyTight, IsPacked}
use Rattle.run_pack.proofs.RowLemmas.{same_runs, border, border_past, border-le, get_or-starts_of, start_at-inside}

-- what is common to some sets is common to a part of them
pub IsCommon-part : (sets : List ℕ) (from upto from' upto' move : ℕ) → IsCommon sets from upto move → from ≤ from' → upto' ≤ upto → IsCommon sets from' upto' move
IsCommon-part sets from upto from' upto' move common later sooner = record {
  number = common.number;
  everywhere = λ place a b. common.everywhere place (omega arith) (omega arith);
}

pub Fits-from_tight : (runs : List Run) (sets : List ℕ) → IsTight runs sets → Fits runs sets
Fits-from_tight runs sets tight = record {
  row = tight.row;
  held = λ k within. (tight.least k within).common;
}

module _ (runs other : List Run) (sets : List ℕ) (tight : IsTight runs sets) (fits : Fits other sets) where
  -- where run `k` of the other row starts no later, neither does its next run
  next_not_ahead : (k : ℕ) → border other (length sets) k ≤ border runs (length sets) k → border other (length sets) (k + 1) ≤ border runs (length sets) (k + 1)
  next_not_ahead k before =
      let places = length sets in
      let inside = border-le other places fits.row (k + 1) in
      elim (cases_lt (k + 1) (length runs)) [
        | inr past ↦ omega (arith, border_past runs places (k + 1) past)
        | inl within ↦ elim (cases_lt (border runs places (k + 1)) (border other places (k + 1))) [
          | inr behind ↦ behind
          | inl ahead ↦
              let start = start_at-inside runs places tight.row k (omega arith) in
              let mine = get_or-starts_of runs k places (omega arith) in
              elim (cases_lt k (length other)) [
                | inr none ↦ absurd (omega (arith, border_past other places k none))
                | inl here ↦
                    let its = get_or-starts_of other k places here in
                    absurd (tight.maximal k within (move_at other k)
                    (IsCommon-part sets (start_at other k) (end_at other places k) (start_at runs k) (end_at runs places k + 1) (move_at other k) (fits.held k here) (omega arith) (omega arith)))
              ]
        ]
      ]

  -- each run of a tight row starts at or past the run of that number in any row that holds
  pub not_ahead : (k : ℕ) → border other (length sets) k ≤ border runs (length sets) k
  not_ahead zero =
      omega (arith, get_or-starts_of other 0 (length sets) fits.row.rises.some, fits.row.rises.first)
  not_ahead (suc k) = rw (← add-one) (next_not_ahead k (not_ahead k))

  fewest_of : length runs ≤ length other
  fewest_of =
      let places = length sets in
      elim (cases_lt (length other) (length runs)) [
        | inr enough ↦ enough
        | inl fewer ↦
            let past = border_past other places (length other) (omega arith) in
            let start = get_or-starts_of runs (length other) places fewer in
            let inside = start_at-inside runs places tight.row (length other) fewer in
            absurd (omega (arith, not_ahead (length other), past, start, inside))
      ]

-- no row that holds has fewer runs
pub HasFewest-from_tight : (runs : List Run) (sets : List ℕ) → IsTight runs sets → HasFewest runs sets
HasFewest-from_tight runs sets tight = record { fewest = λ other fits. fewest_of runs other sets tight fits }

module _ (a b : List Run) (sets : List ℕ) (tight_a : IsTight a sets) (tight_b : IsTight b sets) where
  same_border : (k : ℕ) → border a (length sets) k ≡ border b (length sets) k
  same_border k =
      omega (arith, not_ahead a b sets tight_a (Fits-from_tight b sets tight_b) k, not_ahead b a sets tight_b (Fits-from_tight a sets tight_a) k)

  same_length : length a ≡ length b
  same_length =
      omega (arith, fewest_of a b sets tight_a (Fits-from_tight b sets tight_b), fewest_of b a sets tight_b (Fits-from_tight a sets tight_a))

  same_start : (k : ℕ) → k < length a → start_at a k ≡ start_at b k
  same_start k within =
      let size = same_length in
      omega (arith, same_border k, get_or-starts_of a k (length sets) within, get_or-starts_of b k (length sets) (omega arith))

  -- the least common move of one row's run is no greater than the other row's move there
  move_at-le : (k : ℕ) → k < length a → move_at a k ≤ move_at b k
  move_at-le k within =
      let size = same_length in
      let places = length sets in
      let end = same_border (k + 1) in
      let start = same_start k within in
      let theirs = (tight_b.least k (omega arith)).common in
      (tight_a.least k within).least (move_at b k)
      (IsCommon-part sets (start_at b k) (end_at b places k) (start_at a k) (end_at a places k) (move_at b k) theirs (omega arith) (omega arith))

-- two tight rows of the same sets are one
pub same_tight : (a b : List Run) (sets : List ℕ) → IsTight a sets → IsTight b sets → a ≡ b
same_tight a b sets tight_a tight_b =
    let size = same_length a b sets tight_a tight_b in
    same_lists a b size (λ k d within.
    (let there : k < length b = omega arith in
    let start = same_start a b sets tight_a tight_b k within in
    let move : move_at a k ≡ move_at b k =
    omega (arith, move_at-le a b sets tight_a tight_b k within, move_at-le b a sets tight_b tight_a k there) in
    let here = get_or_default a k d no_run within in
    let its = get_or_default b k d no_run there in
    let run = same_runs (get_or a k no_run) (get_or b k no_run) start move in
    cc))

pub IsOnlyTight-from_tight : (runs : List Run) (sets : List ℕ) → IsTight runs sets → IsOnlyTight runs sets
IsOnlyTight-from_tight runs sets tight = record { only = λ other also. same_tight other runs sets also tight }

-- so all is said of a row once it is tight
pub IsPacked-from_tight : (runs : List Run) (sets : List ℕ) → IsTight runs sets → IsPacked runs sets
IsPacked-from_tight runs sets tight = record {
  tight = tight;
  only = IsOnlyTight-from_tight runs sets tight;
  fits = Fits-from_tight runs sets tight;
  fewest = HasFewest-from_tight runs sets tight;
}
