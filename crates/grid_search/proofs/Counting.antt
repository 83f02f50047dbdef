-- How many cells can be settled: at most as many as are passable.
use Rattle.std.proofs.Common.{◌≡◌, ℕ, suc, ◌+◌, ◌<◌, ◌≤◌, Bool, true, false, cond, List, [], ◌∷◌, length, get_or, set, count_by, sym, ap, ◌∙◌, inl, inr, arith, All, AllPairs, get_or-set_other}
use Rattle.std.proofs.lemmas.Bool.{cases_lt, false≢true}
use Rattle.std.proofs.lemmas.List.{get_or_past}
use Rattle.std.proofs.lemmas.List.Sums.{sum_by-set}

-- places of a list that are marked there, each named once, are no more than the marks
pub marked_once : {X : Type 0} (place : X → ℕ) (cells : List X) (marks : List Bool) → AllPairs (λ a b. place a ≡ place b → ⊥) cells
    → All (λ cell. get_or marks (place cell) false ≡ true) cells → length cells ≤ count_by (λ mark. mark) marks
marked_once place [] marks apart marked = omega arith
marked_once place (cell ∷ cells) marks apart marked =
    let here : get_or marks (place cell) false ≡ true = marked 0 cell (omega arith) in
    let fits : place cell < length marks = elim (cases_lt (place cell) (length marks)) [
      | inl h ↦ h
      | inr h ↦ absurd (false≢true (sym (get_or_past marks (place cell) false h) ∙ here))
    ] in
    let fewer : count_by (λ mark. mark) (set marks (place cell) false) + cond (get_or marks (place cell) false) 1 0 ≡ count_by (λ mark. mark) marks + 0 =
    sum_by-set (λ mark. cond mark 1 0) marks (place cell) false false fits in
    let one : cond {A = ℕ} (get_or marks (place cell) false) 1 0 ≡ 1 = ap (λ (mark : Bool). cond {A = ℕ} mark 1 0) here in
    let rest : length cells ≤ count_by (λ mark. mark) (set marks (place cell) false) =
    marked_once place cells (set marks (place cell) false) (λ i j d h k. apart (suc i) (suc j) d (omega arith) (omega arith))
    (λ k d h. let other : place (get_or cells k d) ≡ place cell → ⊥ = λ e. apart 0 (suc k) d (omega arith) (omega arith) (sym e) in
    get_or-set_other marks (place cell) (place (get_or cells k d)) false false other ∙ marked (suc k) d (omega arith)) in
    omega arith
