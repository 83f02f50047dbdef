-- Visits as a relation, and as the function with a bounded depth.
use Rattle.std.proofs.Common.{◌≡◌, ℕ, zero, suc, ◌+◌, ◌≤◌, ◌⊎◌, true, false, List, [], ◌∷◌, ◌++◌, length, refl, ap, ◌∙◌, inl, inr, arith}
use Rattle.std.specs.List.{fold}
use Rattle.std.proofs.lemmas.Bool.{cond-true, cond-false}
use Rattle.std.proofs.lemmas.List.{length_push}
use Rattle.moves.specs.declared.Cell.{Cell}
use Rattle.cell_order.specs.Orders.{is_new, cells_beside, visit}

-- Cells are visited in turn, after those that were seen: what is not new is passed by, and what is new is added to
-- those seen, and then the cells beside it are visited before the rest.
pub data Visits (cells : List Cell) : List Cell → List Cell → List Cell → Type 0 where
  nothing : {seen : List Cell} → Visits cells [] seen seen
  passes : {cell : Cell} {rest seen after : List Cell} → is_new cells seen cell ≡ false → Visits cells rest seen after
      → Visits cells (cell ∷ rest) seen after
  enters : {cell : Cell} {rest seen middle after : List Cell} → is_new cells seen cell ≡ true
      → Visits cells (cells_beside cell) (seen ++ cell ∷ []) middle → Visits cells rest middle after
      → Visits cells (cell ∷ rest) seen after

-- the first visit and the rest
pub first_visit : {cells rest seen after : List Cell} {cell : Cell} → Visits cells (cell ∷ rest) seen after
    → ((is_new cells seen cell ≡ false) × Visits cells rest seen after)
    ⊎ ((middle : List Cell) × (is_new cells seen cell ≡ true) × Visits cells (cells_beside cell) (seen ++ cell ∷ []) middle × Visits cells rest middle after)
first_visit (passes old rest) = inl (old, rest)
first_visit (enters {middle = middle} new inner rest) = inr (middle, new, inner, rest)

-- visits to two lists, one after the other
pub parted : (cells xs ys seen after : List Cell) → Visits cells (xs ++ ys) seen after
    → (middle : List Cell) × Visits cells xs seen middle × Visits cells ys middle after
parted cells [] ys seen after v = (seen, nothing, v)
parted cells (x ∷ xs) ys seen after v =
    elim (first_visit v) [
      | inl old ↦ let rest = parted cells xs ys seen after old.1 in (rest.0, passes old.0 rest.1, rest.2)
      | inr new ↦ let rest = parted cells xs ys new.0 after new.3 in (rest.0, enters new.1 new.2 rest.1, rest.2)
    ]

-- visits never drop what was seen
pub visits_longer : {cells xs seen after : List Cell} → Visits cells xs seen after → length seen ≤ length after
visits_longer nothing = omega arith
visits_longer (passes old rest) = visits_longer rest
visits_longer (enters {cell = cell} {seen = seen} new inner rest) =
    let a = visits_longer inner in
    let b = visits_longer rest in
    let c = length_push seen cell in
    omega arith

pub visit_passes : (depth : ℕ) (cells seen : List Cell) (cell : Cell) → is_new cells seen cell ≡ false → visit depth cells seen cell ≡ seen
unfolding visit
visit_passes zero cells seen cell old = refl
visit_passes (suc depth) cells seen cell old = cond-false (is_new cells seen cell) (fold (visit depth cells) (seen ++ cell ∷ []) (cells_beside cell)) seen old

pub visit_enters : (depth : ℕ) (cells seen : List Cell) (cell : Cell) → is_new cells seen cell ≡ true
    → visit (suc depth) cells seen cell ≡ fold (visit depth cells) (seen ++ cell ∷ []) (cells_beside cell)
unfolding visit
visit_enters depth cells seen cell new = cond-true (is_new cells seen cell) (fold (visit depth cells) (seen ++ cell ∷ []) (cells_beside cell)) seen new

-- each visit that goes deeper adds a cell, so the function with that depth gives what the relation does
pub visits_fold : {cells xs seen after : List Cell} → Visits cells xs seen after → (depth : ℕ)
    → length after ≤ length seen + depth → fold (visit depth cells) seen xs ≡ after
visits_fold nothing depth enough = refl
visits_fold {cells = cells} (passes {cell = cell} {rest = rest} {seen = seen} old r) depth enough =
    ap (λ s. fold (visit depth cells) s rest) (visit_passes depth cells seen cell old) ∙ visits_fold r depth enough
visits_fold {cells = cells} (enters {cell = cell} {rest = rest} {seen = seen} {middle = middle} new inner r) zero enough =
    let a = visits_longer inner in
    let b = visits_longer r in
    let c = length_push seen cell in
    absurd (omega arith)
visits_fold {cells = cells} (enters {cell = cell} {rest = rest} {seen = seen} {middle = middle} new inner r) (suc depth) enough =
    let a = visits_longer inner in
    let b = visits_longer r in
    let c = length_push seen cell in
    let whole : visit (suc depth) cells seen cell ≡ middle = visit_enters depth cells seen cell new ∙ visits_fold inner depth (omega arith) in
    ap (λ s. fold (visit (suc depth) cells) s rest) whole ∙ visits_fold r (suc depth) (omega arith)
