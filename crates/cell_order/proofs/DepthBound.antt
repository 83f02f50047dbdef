-- The bound on the depth of visits never shows: there is room for all cells that were not seen, and no visit goes deeper.
use Rattle.std.proofs.Common.{◌≡◌, ℕ, zero, suc, ◌+◌, ◌≤◌, Bool, true, false, not, cond, List, [], ◌∷◌, ◌++◌, length, refl, sym, ap, ◌∙◌, inl, inr, arith}
use Rattle.std.specs.List.{fold}
use Rattle.std.proofs.lemmas.Bool.{cases_Bool, and_parts, or_cases, or_left, or_right, false≢true}
use Rattle.std.proofs.lemmas.List.{length_push}
use Rattle.std.proofs.lemmas.List.Folds.{list_any-append}
use Rattle.moves.specs.declared.Cell.{Cell}
use Rattle.moves.specs.Maps.{is_cell, has_cell}
use Rattle.moves.proofs.Connected.{is_cell-true, is_cell-same}
use Rattle.cell_order.specs.Orders.{is_new, cells_beside, visit, VisitsHaveNoBound}
use Rattle.cell_order.proofs.Visiting.{Visits, nothing, passes, enters, visits_fold, visit_passes}

-- how many of the cells were not seen
pub left : List Cell → List Cell → ℕ
left [] seen = 0
left (c ∷ cs) seen = cond (has_cell seen c) 0 1 + left cs seen

counts : (a b : Bool) (m n : ℕ) → (a ≡ true → b ≡ true) → m ≤ n → cond b 0 1 + m ≤ cond a 0 1 + n
counts true true m n h le = omega arith
counts true false m n h le = absurd (false≢true (h refl))
counts false true m n h le = omega arith
counts false false m n h le = omega arith

counts_less : (a b : Bool) (m n : ℕ) → a ≡ false → b ≡ true → m ≤ n → cond b 0 1 + m + 1 ≤ cond a 0 1 + n
counts_less true b m n p q le = absurd (false≢true (sym p))
counts_less false true m n p q le = omega arith
counts_less false false m n p q le = absurd (false≢true q)

counts_more : (a b : Bool) (m n : ℕ) → (a ≡ true → b ≡ true) → m + 1 ≤ n → cond b 0 1 + m + 1 ≤ cond a 0 1 + n
counts_more true true m n h le = omega arith
counts_more true false m n h le = absurd (false≢true (h refl))
counts_more false true m n h le = omega arith
counts_more false false m n h le = omega arith

has_push : (seen : List Cell) (cell c : Cell) → has_cell seen c ≡ true → has_cell (seen ++ cell ∷ []) c ≡ true
has_push seen cell c h = list_any-append (is_cell c) seen (cell ∷ []) ∙ or_left (has_cell seen c) (has_cell (cell ∷ []) c) h

has_last : (seen : List Cell) (cell : Cell) → has_cell (seen ++ cell ∷ []) cell ≡ true
has_last seen cell =
    list_any-append (is_cell cell) seen (cell ∷ []) ∙ or_right (has_cell seen cell) (has_cell (cell ∷ []) cell) (or_left (is_cell cell cell) false (is_cell-same cell cell refl))

left_push : (cells seen : List Cell) (cell : Cell) → left cells (seen ++ cell ∷ []) ≤ left cells seen
unfolding left
left_push [] seen cell = omega arith
left_push (c ∷ cs) seen cell =
    counts (has_cell seen c) (has_cell (seen ++ cell ∷ []) c) (left cs (seen ++ cell ∷ [])) (left cs seen) (has_push seen cell c) (left_push cs seen cell)

-- a cell that is added to those seen is no longer left
left_less : (cells seen : List Cell) (cell : Cell) → has_cell cells cell ≡ true → has_cell seen cell ≡ false → left cells (seen ++ cell ∷ []) + 1 ≤ left cells seen
unfolding left
left_less [] seen cell h new = absurd (false≢true h)
left_less (c ∷ cs) seen cell h new =
    elim (or_cases (is_cell cell c) (has_cell cs cell) h) [
      | inl here ↦
          let same = is_cell-true cell c here in
          counts_less (has_cell seen c) (has_cell (seen ++ cell ∷ []) c) (left cs (seen ++ cell ∷ [])) (left cs seen)
          (ap (has_cell seen) same ∙ new) (ap (has_cell (seen ++ cell ∷ [])) same ∙ has_last seen cell) (left_push cs seen cell)
      | inr later ↦ counts_more (has_cell seen c) (has_cell (seen ++ cell ∷ []) c) (left cs (seen ++ cell ∷ [])) (left cs seen) (has_push seen cell c) (left_less cs seen cell later new)
    ]

pub left_most : (cells seen : List Cell) → left cells seen ≤ length cells
unfolding left
left_most [] seen = omega arith
left_most (c ∷ cs) seen =
    let rest = left_most cs seen in
    let one : cond (has_cell seen c) 0 1 ≤ 1 = elim (has_cell seen c) as (λ v. cond v 0 1 ≤ 1) [ true ↦ omega arith | false ↦ omega arith ] in
    omega arith

-- what visits to some cells give, and that they used up what they added
pub record Visited (cells xs seen : List Cell) : Type 0 where
  pub after : List Cell
  pub visits : Visits cells xs seen after
  pub used : length after + left cells after ≤ length seen + left cells seen
  pub fewer : left cells after ≤ left cells seen

pub new_parts : (cells seen : List Cell) (cell : Cell) → is_new cells seen cell ≡ true → (has_cell cells cell ≡ true) × (has_cell seen cell ≡ false)
new_parts cells seen cell new =
    let parts = and_parts (has_cell cells cell) (not (has_cell seen cell)) new in
    (parts.0, elim (has_cell seen cell) as (λ v. not v ≡ true → v ≡ false) [ true ↦ (λ h. absurd (false≢true h)) | false ↦ (λ h. refl) ] parts.1)

module _ (cells : List Cell) where
  passed : (x : Cell) (xs seen : List Cell) → is_new cells seen x ≡ false → Visited cells xs seen → Visited cells (x ∷ xs) seen
  passed x xs seen old rest = record { after = rest.after; visits = passes old rest.visits; used = rest.used; fewer = rest.fewer }

  entered : (x : Cell) (xs seen : List Cell) → is_new cells seen x ≡ true → (inner : Visited cells (cells_beside x) (seen ++ x ∷ [])) → Visited cells xs inner.after
      → Visited cells (x ∷ xs) seen
  entered x xs seen new inner rest =
      let parts = new_parts cells seen x new in
      let less = left_less cells seen x parts.0 parts.1 in
      let longer = length_push seen x in
      let a = inner.used in
      let b = rest.used in
      let c = inner.fewer in
      let d = rest.fewer in
      record { after = rest.after; visits = enters new inner.visits rest.visits; used = omega arith; fewer = omega arith }

  -- there are visits to any cells after any that were seen
  pub visits_exist : (n : ℕ) (xs seen : List Cell) → left cells seen ≤ n → Visited cells xs seen
  visits_exist n [] seen few = record { after = seen; visits = nothing; used = omega arith; fewer = omega arith }
  visits_exist zero (x ∷ xs) seen few =
      elim (cases_Bool (is_new cells seen x)) [
        | inl new ↦ (let parts = new_parts cells seen x new in let less = left_less cells seen x parts.0 parts.1 in absurd (omega arith))
        | inr old ↦ passed x xs seen old (visits_exist zero xs seen few)
      ]
  visits_exist (suc n) (x ∷ xs) seen few =
      elim (cases_Bool (is_new cells seen x)) [
        | inl new ↦
            let parts = new_parts cells seen x new in
            let less = left_less cells seen x parts.0 parts.1 in
            let inner = visits_exist n (cells_beside x) (seen ++ x ∷ []) (omega arith) in
            let fewer = inner.fewer in
            entered x xs seen new inner (visits_exist (suc n) xs inner.after (omega arith))
        | inr old ↦ passed x xs seen old (visits_exist (suc n) xs seen few)
      ]

  -- with a depth of as many as there are cells, the function gives what the visits give
  pub visited_is : (xs seen : List Cell) (visited : Visited cells xs seen) → fold (visit (length cells) cells) seen xs ≡ visited.after
  visited_is xs seen visited =
      let most = left_most cells seen in
      let used = visited.used in
      visits_fold visited.visits (length cells) (omega arith)

  need_no_depth_new : (seen : List Cell) (cell : Cell) → is_new cells seen cell ≡ true
      → visit (length cells) cells seen cell ≡ fold (visit (length cells) cells) (seen ++ cell ∷ []) (cells_beside cell)
  unfolding entered visits_exist
  need_no_depth_new seen cell new =
      let inner = visits_exist (length cells) (cells_beside cell) (seen ++ cell ∷ []) (left_most cells (seen ++ cell ∷ [])) in
      let none : Visited cells [] inner.after = record { after = inner.after; visits = nothing; used = omega arith; fewer = omega arith } in
      visited_is (cell ∷ []) seen (entered cell [] seen new inner none) ∙ sym (visited_is (cells_beside cell) (seen ++ cell ∷ []) inner)

pub no_bound_shows : VisitsHaveNoBound
no_bound_shows = record {
  new = need_no_depth_new;
  old = λ cells seen cell old. visit_passes (length cells) cells seen cell old;
}
