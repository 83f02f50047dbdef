-- Ranks of cells, and the cells of ranks in order.
use Rattle.std.proofs.Common.{◌≡◌, ℕ, ◌+◌, ◌*◌, ◌/◌, ◌%◌, ◌<◌, List, [], ◌∷◌, ◌++◌, length, get_or, sym, ap, ◌∙◌, subst, inl, inr, arith}
use Rattle.std.specs.List.{All, AllPairs, Contains}
use Rattle.std.proofs.lemmas.Bool.{cases_lt}
use Rattle.std.proofs.lemmas.Nat.{div-add-mod'}
use Rattle.std.proofs.lemmas.List.{get_or_default}
use Rattle.std.proofs.lemmas.List.Elements.{All-push, Contains-push, Contains-push_cases, Contains-append_left, Contains-get_or}
use Rattle.std.proofs.lemmas.List.Quantifiers.{all_pairs_push}
use Rattle.moves.specs.declared.Cell.{Cell}
use Rattle.moves.proofs.MoveLaws.{same_cell}
use Rattle.components.specs.Edits.{rank_of, AreCellsOf}

-- one rank is one cell
pub same_rank : (a b : Cell) → a.x < 65536 → b.x < 65536 → rank_of a ≡ rank_of b → a ≡ b
same_rank a b p q same = same_cell a b (omega arith) (omega arith)

-- the cells of the first ranks
pub record AreCellsBelow (ranks : List ℕ) (i : ℕ) (cells : List Cell) : Type 0 where
  pub small : All (λ cell. cell.x < 65536) cells
  pub in_order : AllPairs (λ a b. rank_of a < rank_of b) cells
  pub each : (cell : Cell) → Contains cells cell → (k : ℕ) × (k < i) × (get_or ranks k 0 ≡ rank_of cell)
  pub every : (k : ℕ) → k < i → (cell : Cell) → cell.x < 65536 → get_or ranks k 0 ≡ rank_of cell → Contains cells cell

pub cells_below_none : (ranks : List ℕ) → AreCellsBelow ranks 0 []
cells_below_none ranks = record {
  small = λ k d less. absurd (omega arith);
  in_order = λ i j d less within. absurd (omega arith);
  each = λ c has. absurd (let k = has.1 in omega arith);
  every = λ k less c low at. absurd (omega arith);
}

module _ (ranks : List ℕ) (i : ℕ) (cells : List Cell) (p : AreCellsBelow ranks i cells) where
  pub cells_below_skip : (j : ℕ) → j < i → get_or ranks j 0 ≡ get_or ranks i 0 → AreCellsBelow ranks (i + 1) cells
  cells_below_skip j before same = record {
    small = p.small;
    in_order = p.in_order;
    each = λ c has. let e = p.each c has in (e.0, let l = e.1 in omega arith, e.2);
    every = λ k less c low at.
        elim (cases_lt k i) [
          | inl earlier ↦ p.every k earlier c low at
          | inr now ↦ let e : k ≡ i = omega arith in p.every j before c low (same ∙ (ap (λ n. get_or ranks n 0) (sym e) ∙ at))
        ];
  }

  pub cells_below_more : ((j : ℕ) → j < i → get_or ranks j 0 < get_or ranks i 0) → (y : Cell) → y.x < 65536 → rank_of y ≡ get_or ranks i 0 → AreCellsBelow ranks (i + 1) (cells ++ y ∷ [])
  cells_below_more new y low is = record {
    small = All-push (λ c. c.x < 65536) cells y p.small low;
    in_order = all_pairs_push (λ a b. rank_of a < rank_of b) cells y p.in_order (λ k d less.
        let e = p.each (get_or cells k d) (Contains-get_or cells k d less) in
        let n = new e.0 e.1 in
        let a = e.2 in
        omega arith);
    each = λ c has.
        elim (Contains-push_cases cells y c has) [
          | inl before ↦ let e = p.each c before in (e.0, let l = e.1 in omega arith, e.2)
          | inr now ↦ (i, omega arith, sym is ∙ ap rank_of now)
        ];
    every = λ k less c small at.
        elim (cases_lt k i) [
          | inl earlier ↦ Contains-append_left cells (y ∷ []) c (p.every k earlier c small at)
          | inr now ↦
              let e : k ≡ i = omega arith in
              let same : y ≡ c = same_rank y c low small (is ∙ (ap (λ n. get_or ranks n 0) (sym e) ∙ at)) in
              subst (Contains (cells ++ y ∷ [])) same (Contains-push cells y)
        ];
  }

pub cells_below_all : (ranks : List ℕ) (i : ℕ) (cells : List Cell) → length ranks ≡ i → AreCellsBelow ranks i cells → AreCellsOf ranks cells
cells_below_all ranks i cells all p = record {
  small = p.small;
  in_order = p.in_order;
  each = λ c has. let e = p.each c has in (e.0, let l = e.1 in omega arith, get_or_default ranks e.0 (rank_of c) 0 (let l = e.1 in omega arith) ∙ e.2);
  every = λ c low has. let l = has.1 in p.every has.0 (omega arith) c low (get_or_default ranks has.0 0 (rank_of c) l ∙ has.2);
}

-- the cell with a rank
pub rank_of_parts : (rank x y : ℕ) → x ≡ rank % 65536 → y ≡ rank / 65536 → 65536 * y + x ≡ rank
rank_of_parts rank x y p q = let e = div-add-mod' rank 65536 in omega arith
