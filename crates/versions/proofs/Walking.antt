-- What is spelled is a best path.
use Rattle.std.proofs.Common.{◌≡◌, ◌≢◌, ℕ, zero, suc, ◌+◌, ◌<◌, ◌≤◌, List, [], ◌∷◌, length, get_or, refl, sym, ap, subst, ◌∙◌, inl, inr, arith}
use Rattle.std.specs.List.{Contains, remove}
use Rattle.std.proofs.lemmas.List.{get_or_default}
use Rattle.std.proofs.lemmas.List.Edits.{length-remove}
use Rattle.std.proofs.lemmas.List.Sorted.{IsPermutation-remove, Contains-permutation}
use Rattle.root_cost.specs.Costs.{IsAtMost, plus_step}
use Rattle.root_cost.proofs.Adding.{none_at_most}
use Rattle.moves.specs.declared.Cell.{Cell}
use Rattle.moves.specs.declared.Move.{Move}
use Rattle.moves.specs.Maps.{Map}
use Rattle.moves.specs.Moves.{number_of, is_diagonal, IsLegal}
use Rattle.moves.specs.Paths.{cost_of, IsBest}
use Rattle.moves.specs.FirstSets.{IsFirstMove}
use Rattle.moves.proofs.LawsOfPaths.{best_parts, same_cost_of_best, leads_from}
use Rattle.moves.proofs.CostsOfPaths.{cost_of-cons, moves_of_cost}
use Rattle.moves.proofs.FirstMoves.{best_none}
use Rattle.moves.proofs.MovesInSets.{move_with, Has-from_bit}
use Rattle.moves.proofs.TableLaws.{same_or_apart}
use Rattle.run_pack.specs.declared.Run.{Run}
use Rattle.run_pack.specs.Runs.{end_at, IsRow, IsCoveringMove}
use Rattle.run_pack.proofs.SetLemmas.{bit_from_Has}
use Rattle.cell_order.proofs.Permutations.{contains_cases}
use Rattle.moves.specs.FirstSetLists.{cell_of}
use Rattle.row_store.specs.Rows.{row_at, AreRows, IsRowFrom}
use Rattle.row_store.specs.Comps.{IsPlaceOf}
use Rattle.versions.specs.Spelled.{IsKept, Spells, IsWalkAmong}
use Rattle.run_pack.proofs.Covering.{covering_move}

-- a cell of a list stands somewhere in it
pub found_at : (cells : List Cell) (cell : Cell) → Contains cells cell → (place : ℕ) × IsPlaceOf cells cell place
found_at cells cell h = (h.0, record { within = h.1; there = get_or_default cells h.0 (record { x = 0; y = 0 }) cell h.1 ∙ h.2 })

-- the move of a run that covers a place of a row is a first move to the cell there
pub covering_is_first : (map : Map) (cells : List Cell) (from : Cell) (row : List Run) (place : ℕ) (move : Move)
    → IsRowFrom map cells from row → place < length cells → IsCoveringMove row (length cells) place (number_of move)
    → IsFirstMove map from (cell_of cells place) move
covering_is_first map cells from row place move of inside covering =
    let whole = of.first.whole in
    let common = (of.tight.least covering.run covering.within).common in
    let upto = subst (λ n. place < end_at row n covering.run) (sym whole) covering.covers.upto in
    let has = common.everywhere place covering.covers.from upto in
    let bit = bit_from_Has _ _ has in
    (of.first.each place inside move).0 (Has-from_bit _ move (rw covering.is bit))

-- the number of a move that a row keeps is that of a move
pub covering_has_move : (map : Map) (cells : List Cell) (from : Cell) (row : List Run) (place : ℕ)
    → IsRowFrom map cells from row → place < length cells → (move : Move) × IsCoveringMove row (length cells) place (number_of move)
covering_has_move map cells from row place of inside =
    let row_of = subst (IsRow row) of.first.whole of.tight.row in
    let covering = covering_move row (length cells) place row_of inside in
    let least = of.tight.least covering.1.run covering.1.within in
    let number = subst (λ n. n < 8) (sym covering.1.is) least.common.number in
    let move = move_with covering.0 number in
    (move.0, subst (IsCoveringMove row (length cells) place) (sym move.1) covering.1)

-- lists of moves that cost the same are equally long
pub as_long : (moves others : List Move) → cost_of moves ≡ cost_of others → length moves ≡ length others
as_long moves others same = sym (moves_of_cost moves) ∙ ap (λ c. c.straight + c.diagonal) same ∙ moves_of_cost others

-- a move and a best path from where it leads cost the least if some best path begins with that move
pub best_by_first : (map : Map) (a b c : Cell) (move : Move) (rest moves : List Move) → IsBest map a (move ∷ rest) c → IsLegal map a move b
    → IsBest map b rest c → IsBest map b moves c → IsBest map a (move ∷ moves) c
best_by_first map a b c move rest moves whole legal best other = record {
  leads = (b, legal, other.leads);
  least = λ others path.
      let same : cost_of (move ∷ rest) ≡ cost_of (move ∷ moves) =
      cost_of-cons move rest ∙ ap (λ x. plus_step x (is_diagonal move)) (same_cost_of_best map b c rest moves best other) ∙ sym (cost_of-cons move moves) in
      subst (λ x. IsAtMost x (cost_of others)) same (whole.least others path);
}

-- a list has what stands in it elsewhere than at a place, without that place
pub contains_without : (xs : List Cell) (n : ℕ) (x y : Cell) → n < length xs → get_or xs n x ≡ x → x ≢ y → Contains xs y → Contains (remove xs n) y
contains_without xs n x y less at apart h =
    let p = IsPermutation-remove xs n x less (sym at) in
    elim (contains_cases x (remove xs n) y (Contains-permutation xs (x ∷ remove xs n) y p h)) [
      | inl same ↦ absurd (apart same)
      | inr rest ↦ rest
    ]

-- a best path goes through each cell once: where all cells with a best path no longer than it are in a list, it has fewer moves than the list has cells
pub fewer_moves : (map : Map) (goal : Cell) (from : Cell) (moves : List Move) (xs : List Cell) → IsBest map from moves goal
    → ((cell : Cell) (others : List Move) → IsBest map cell others goal → length others ≤ length moves → Contains xs cell)
    → length moves < length xs
fewer_moves map goal from [] xs best inside =
    let h = inside from [] best (omega arith) in
    let l = h.1 in omega arith
fewer_moves map goal from (move ∷ moves) xs best inside =
    let h = inside from (move ∷ moves) best (omega arith) in
    let parts = best_parts map from goal (move ∷ []) moves best in
    let shorter = fewer_moves map goal parts.0 moves (remove xs h.0) parts.2
    (λ cell others its less.
    contains_without xs h.0 from cell h.1 h.2
    (λ same. let long = as_long (move ∷ moves) others (same_cost_of_best map from goal (move ∷ moves) others best (subst (λ x. IsBest map x others goal) (sym same) its)) in
    absurd (omega arith))
    (inside cell others its (omega arith))) in
    let size = length-remove xs h.0 h.1 in
    omega arith

module _ (cells : List Cell) (rows : List (List Run)) (are : AreRows cells rows) where
  abbrev pub map : Map
  map = are.map

  -- the move that is kept for a goal begins a best path
  pub kept_is_first : (from goal : Cell) (move : Move) → from ≢ goal → IsKept cells rows from goal move → (rest : List Move) × IsBest map from (move ∷ rest) goal
  kept_is_first from goal move apart kept =
      let of = subst (λ x. IsRowFrom map cells x (row_at rows kept.source)) kept.leaves.there (are.each kept.source kept.leaves.within) in
      let first = covering_is_first map cells from (row_at rows kept.source) kept.column move of kept.arrives.within kept.covers in
      elim (subst (λ x. IsFirstMove map from x move) kept.arrives.there first) [
        | inl same ↦ absurd (apart same.0)
        | inr best ↦ best
      ]

  -- for each goal a move is kept
  pub some_kept : (from goal : Cell) → Contains cells from → Contains cells goal → (move : Move) × IsKept cells rows from goal move
  some_kept from goal a b =
      let leaves = found_at cells from a in
      let arrives = found_at cells goal b in
      let of = are.each leaves.0 leaves.1.within in
      let move = covering_has_move map cells (cell_of cells leaves.0) (row_at rows leaves.0) arrives.0 of arrives.1.within in
      (move.0, record { source = leaves.0; column = arrives.0; leaves = leaves.1; arrives = arrives.1; covers = move.1 })

  pub walk_along : (goal : Cell) → Contains cells goal → (n : ℕ) (from : Cell) (best : List Move) → Contains cells from → IsBest map from best goal → length best ≡ n
      → (moves : List Move) × Spells cells rows from moves goal × IsBest map from moves goal
  walk_along goal b n from [] a best long = ([], best.leads.1, best)
  walk_along goal b zero from (first ∷ rest) a best long = absurd (omega arith)
  walk_along goal b (suc n) from (first ∷ rest) a best long =
      elim (same_or_apart from goal) [
        | inl same ↦ (let none = best_none map from (first ∷ rest) (subst (λ x. IsBest map from (first ∷ rest) x) (sym same) best) in absurd (let e = ap length none in omega arith))
        | inr apart ↦
            let kept = some_kept from goal a b in
            let way = kept_is_first from goal kept.0 apart kept.1 in
            let parts = best_parts map from goal (kept.0 ∷ []) way.0 way.1 in
            let step = parts.1.leads in
            let legal : IsLegal map from kept.0 parts.0 = subst (λ x. IsLegal map from kept.0 x) step.2.1 step.1 in
            let size = as_long (kept.0 ∷ way.0) (first ∷ rest) (same_cost_of_best map from goal (kept.0 ∷ way.0) (first ∷ rest) way.1 best) in
            let next = (are.just.just_these parts.0).0 legal.enters.passable in
            let later = walk_along goal b n parts.0 way.0 next parts.2 (omega arith) in
            (kept.0 ∷ later.0, (apart, kept.1, parts.0, legal.target, later.1), best_by_first map from parts.0 goal kept.0 way.0 later.0 way.1 legal parts.2 later.2)
      ]

  pub walk : (from goal : Cell) → Contains cells from → Contains cells goal → IsWalkAmong map cells rows from goal
  walk from goal a b =
      elim (same_or_apart from goal) [
        | inl same ↦ record {
          moves = [];
          spelled = same;
          best = record {
            leads = ((are.just.just_these from).1 a, same);
            least = λ others path. none_at_most (cost_of others);
          };
          short = (let l = a.1 in omega arith);
        }
        | inr apart ↦
            let kept = some_kept from goal a b in
            let way = kept_is_first from goal kept.0 apart kept.1 in
            let found = walk_along goal b (length (kept.0 ∷ way.0)) from (kept.0 ∷ way.0) a way.1 refl in
            record {
              moves = found.0;
              spelled = found.1;
              best = found.2;
              short = fewer_moves map goal from found.0 cells found.2 (λ cell others its less. (are.just.just_these cell).0 (leads_from map cell goal others its.leads));
            }
      ]
