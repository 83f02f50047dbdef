-- A tight row as a list of runs, each of them tight by itself: it can be cut in two, and joined anew.
use Rattle.std.proofs.Common.{◌≡◌, refl, ℕ, zero, suc, ◌+◌, ◌<◌, ◌≤◌, List, [], ◌∷◌, ◌++◌, length, arith, inl, inr}
use Rattle.std.proofs.lemmas.Bool.{cases_lt}
use Rattle.run_pack.specs.declared.Run.{Run}
use Rattle.run_pack.specs.Sets.{IsCommon, IsLeastCommon}
use Rattle.run_pack.specs.Runs.{start_at, move_at, end_at, IsTight}
use Rattle.run_pack.proofs.RowLemmas.{border, border_past, border-le, get_or-starts_of, start_at-before_end, row_from_borders}

-- a run that has the least of its common moves, and that one set more would leave with none
pub record IsTightRun (sets : List ℕ) (start end move : ℕ) : Type 0 where
  pub covers : start < end
  pub within : end ≤ length sets
  pub least : IsLeastCommon sets start end move
  pub maximal : end < length sets → (other : ℕ) → IsCommon sets start (end + 1) other → ⊥

-- runs that follow one another to before a place, each of them tight
abbrev pub AreTight : List ℕ → List Run → ℕ → Type 0
AreTight sets [] upto = Unit {0}
AreTight sets (run ∷ runs) upto = IsTightRun sets run.start (border runs upto 0) run.mv × AreTight sets runs upto

pub border-append : (xs ys : List Run) (upto : ℕ) → border (xs ++ ys) upto 0 ≡ border xs (border ys upto 0) 0
border-append [] ys upto = refl
border-append (x ∷ xs) ys upto = refl

pub tight_joined : (sets : List ℕ) (xs ys : List Run) (upto : ℕ) → AreTight sets xs (border ys upto 0) → AreTight sets ys upto → AreTight sets (xs ++ ys) upto
tight_joined sets [] ys upto front back = back
tight_joined sets (x ∷ xs) ys upto front back =
    (rw (border-append xs ys upto) front.0, tight_joined sets xs ys upto front.1 back)

pub tight_front : (sets : List ℕ) (xs ys : List Run) (upto : ℕ) → AreTight sets (xs ++ ys) upto → AreTight sets xs (border ys upto 0)
tight_front sets [] ys upto whole = tt
tight_front sets (x ∷ xs) ys upto whole =
    (rw (border-append xs ys upto) at whole.0, tight_front sets xs ys upto whole.1)

pub tight_back : (sets : List ℕ) (xs ys : List Run) (upto : ℕ) → AreTight sets (xs ++ ys) upto → AreTight sets ys upto
tight_back sets [] ys upto whole = whole
tight_back sets (x ∷ xs) ys upto whole = tight_back sets xs ys upto whole.1

-- tight runs begin no later than they end
pub border_upto : (sets : List ℕ) (runs : List Run) (upto : ℕ) → AreTight sets runs upto → border runs upto 0 ≤ upto
border_upto sets [] upto tight = omega arith
border_upto sets (run ∷ runs) upto tight = omega (arith, tight.0.covers, border_upto sets runs upto tight.1)

-- run by run
tight_from_each : (sets : List ℕ) (runs : List Run) (upto : ℕ) → ((k : ℕ) → k < length runs → IsTightRun sets (start_at runs k) (end_at runs upto k) (move_at runs k)) → AreTight sets runs upto
tight_from_each sets [] upto each = tt
tight_from_each sets (run ∷ runs) upto each = (
  each 0 (omega arith),
  tight_from_each sets runs upto (λ k within.
      (let next : suc k + 1 ≡ suc (k + 1) = omega arith in
      rw next at (each (suc k) (omega arith)))),
)

each_tight : (sets : List ℕ) (runs : List Run) (upto : ℕ) → AreTight sets runs upto → (k : ℕ) → k < length runs → IsTightRun sets (start_at runs k) (end_at runs upto k) (move_at runs k)
each_tight sets [] upto tight k within = absurd (omega arith)
each_tight sets (run ∷ runs) upto tight zero within = tight.0
each_tight sets (run ∷ runs) upto tight (suc k) within =
    let next : suc k + 1 ≡ suc (k + 1) = omega arith in
    rw next (each_tight sets runs upto tight.1 k (omega arith))

-- each run of a tight row is tight
pub tight_run : (runs : List Run) (sets : List ℕ) → IsTight runs sets → (k : ℕ) → k < length runs → IsTightRun sets (start_at runs k) (end_at runs (length sets) k) (move_at runs k)
tight_run runs sets tight k within = record {
  covers = start_at-before_end runs (length sets) tight.row k within;
  within = border-le runs (length sets) tight.row (k + 1);
  least = tight.least k within;
  maximal = λ more other common. elim (cases_lt (k + 1) (length runs)) [
    | inl next ↦ tight.maximal k next other common
    | inr last ↦ absurd (omega (arith, border_past runs (length sets) (k + 1) last))
  ];
}

pub tight_runs : (runs : List Run) (sets : List ℕ) → IsTight runs sets → AreTight sets runs (length sets)
tight_runs runs sets tight =
    tight_from_each sets runs (length sets) (tight_run runs sets tight)

-- and tight runs from the first place on are a tight row
pub tight_row : (runs : List Run) (sets : List ℕ) → AreTight sets runs (length sets) → border runs (length sets) 0 ≡ 0 → 0 < length sets → IsTight runs sets
tight_row runs sets tight first some =
    let places = length sets in
    let each = each_tight sets runs places tight in
    elim (cases_lt 0 (length runs)) [
      | inr none ↦ absurd (omega (arith, border_past runs places 0 none))
      | inl one ↦ record {
        row = row_from_borders runs places one (omega (arith, first, get_or-starts_of runs 0 places one)) (λ k within. (each k within).covers);
        least = λ k within. (each k within).least;
        maximal = λ k next.
            (let after = each (k + 1) next in
            (each k (omega arith)).maximal (omega (arith, get_or-starts_of runs (k + 1) places next, after.covers, after.within)));
      }
    ]
