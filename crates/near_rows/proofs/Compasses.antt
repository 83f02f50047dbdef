-- Between two cells there is one compass move.
use Rattle.std.proofs.Common.{◌≡◌, ◌≢◌, ◌⊎◌, ℕ, ◌+◌, ◌<◌, ◌≤◌, Option, Some, None, MatchOption, refl, sym, ap, subst, ◌∙◌, inl, inr, arith}
use Rattle.std.specs.Option.{UnwrapsOrElse}
use Rattle.std.proofs.lemmas.Bool.{cases_lt}
use Rattle.moves.specs.declared.Cell.{Cell}
use Rattle.moves.specs.declared.Move.{Move}
use Rattle.moves.specs.declared.Move.TheVariants.{N, NE, E, SE, S, SW, W, NW}
use Rattle.moves.proofs.MoveLaws.{same_cell}
use Rattle.near_rows.specs.Compass.{IsCompass, IsInSquare}

-- how one number stands to another: it is less, the same, or greater
pub data Order : Type 0 where
  below : Order
  level : Order
  above : Order

abbrev pub Stands : Order → ℕ → ℕ → Type 0
Stands below a b = b < a
Stands level a b = b ≡ a
Stands above a b = a < b

pub one_order : (p q : Order) (a b : ℕ) → Stands p a b → Stands q a b → p ≡ q
one_order below below a b h k = refl
one_order below level a b h k = absurd (omega arith)
one_order below above a b h k = absurd (omega arith)
one_order level below a b h k = absurd (omega arith)
one_order level level a b h k = refl
one_order level above a b h k = absurd (omega arith)
one_order above below a b h k = absurd (omega arith)
one_order above level a b h k = absurd (omega arith)
one_order above above a b h k = refl

abbrev pub column_order : Move → Order
column_order N = level
column_order NE = above
column_order E = above
column_order SE = above
column_order S = level
column_order SW = below
column_order W = below
column_order NW = below

abbrev pub row_order : Move → Order
row_order N = below
row_order NE = below
row_order E = level
row_order SE = above
row_order S = above
row_order SW = above
row_order W = level
row_order NW = below

-- the move whose steps go that way
abbrev move_by : Order → Order → Move
move_by below below = NW
move_by below level = W
move_by below above = SW
move_by level below = N
move_by level level = N
move_by level above = S
move_by above below = NE
move_by above level = E
move_by above above = SE

moved_by : (move : Move) → move_by (column_order move) (row_order move) ≡ move
moved_by N = refl
moved_by NE = refl
moved_by E = refl
moved_by SE = refl
moved_by S = refl
moved_by SW = refl
moved_by W = refl
moved_by NW = refl

pub columns_stand : (from : Cell) (move : Move) (to : Cell) → IsCompass from move to → Stands (column_order move) from.x to.x
columns_stand from N to h = h.0
columns_stand from NE to h = h.0
columns_stand from E to h = h.0
columns_stand from SE to h = h.0
columns_stand from S to h = h.0
columns_stand from SW to h = h.0
columns_stand from W to h = h.0
columns_stand from NW to h = h.0

pub rows_stand : (from : Cell) (move : Move) (to : Cell) → IsCompass from move to → Stands (row_order move) from.y to.y
rows_stand from N to h = h.1
rows_stand from NE to h = h.1
rows_stand from E to h = h.1
rows_stand from SE to h = h.1
rows_stand from S to h = h.1
rows_stand from SW to h = h.1
rows_stand from W to h = h.1
rows_stand from NW to h = h.1

pub compass_stands : (from : Cell) (move : Move) (to : Cell) → Stands (column_order move) from.x to.x → Stands (row_order move) from.y to.y
    → IsCompass from move to
compass_stands from N to columns rows = (columns, rows)
compass_stands from NE to columns rows = (columns, rows)
compass_stands from E to columns rows = (columns, rows)
compass_stands from SE to columns rows = (columns, rows)
compass_stands from S to columns rows = (columns, rows)
compass_stands from SW to columns rows = (columns, rows)
compass_stands from W to columns rows = (columns, rows)
compass_stands from NW to columns rows = (columns, rows)

-- between two cells there is at most one compass move
pub same_compass : (from : Cell) (a b : Move) (to : Cell) → IsCompass from a to → IsCompass from b to → a ≡ b
same_compass from a b to p q =
    let columns = one_order (column_order a) (column_order b) from.x to.x (columns_stand from a to p) (columns_stand from b to q) in
    let rows = one_order (row_order a) (row_order b) from.y to.y (rows_stand from a to p) (rows_stand from b to q) in
    sym (moved_by a) ∙ ap (λ o. move_by o (row_order a)) columns ∙ ap (move_by (column_order b)) rows ∙ moved_by b

-- and one where they are apart
pub some_compass : (from to : Cell) → from ≢ to → (move : Move) × IsCompass from move to
some_compass from to apart =
    elim (cases_lt from.x to.x) [
      | inl right ↦ elim (cases_lt from.y to.y) [
        | inl down ↦ (SE, (right, down))
        | inr up ↦ elim (cases_lt to.y from.y) [
          | inl north ↦ (NE, (right, north))
          | inr same ↦ (E, (right, omega arith))
        ]
      ]
      | inr left ↦ elim (cases_lt to.x from.x) [
        | inl west ↦ elim (cases_lt from.y to.y) [
          | inl down ↦ (SW, (west, down))
          | inr up ↦ elim (cases_lt to.y from.y) [
            | inl north ↦ (NW, (west, north))
            | inr same ↦ (W, (west, omega arith))
          ]
        ]
        | inr column ↦ elim (cases_lt from.y to.y) [
          | inl down ↦ (S, (omega arith, down))
          | inr up ↦ elim (cases_lt to.y from.y) [
            | inl north ↦ (N, (omega arith, north))
            | inr same ↦ absurd (apart (same_cell from to (omega arith) (omega arith)))
          ]
        ]
      ]
    ]

-- no compass move leads to a cell that is not apart
pub no_compass_in_place : (from : Cell) (move : Move) (to : Cell) → IsInSquare from 0 to → IsCompass from move to → ⊥
no_compass_in_place from N to s h = let a = s.top in let b = h.1 in omega arith
no_compass_in_place from NE to s h = let a = s.right in let b = h.0 in omega arith
no_compass_in_place from E to s h = let a = s.right in let b = h.0 in omega arith
no_compass_in_place from SE to s h = let a = s.right in let b = h.0 in omega arith
no_compass_in_place from S to s h = let a = s.bottom in let b = h.1 in omega arith
no_compass_in_place from SW to s h = let a = s.left in let b = h.0 in omega arith
no_compass_in_place from W to s h = let a = s.left in let b = h.0 in omega arith
no_compass_in_place from NW to s h = let a = s.left in let b = h.0 in omega arith

-- ---- squares

pub square_or_not : (centre : Cell) (radius : ℕ) (cell : Cell) → IsInSquare centre radius cell ⊎ (IsInSquare centre radius cell → ⊥)
square_or_not centre radius cell =
    elim (cases_lt (centre.x + radius) cell.x) [
      | inl past ↦ inr (λ s. let a = s.right in omega arith)
      | inr right ↦ elim (cases_lt (cell.x + radius) centre.x) [
        | inl past ↦ inr (λ s. let a = s.left in omega arith)
        | inr left ↦ elim (cases_lt (centre.y + radius) cell.y) [
          | inl past ↦ inr (λ s. let a = s.bottom in omega arith)
          | inr bottom ↦ elim (cases_lt (cell.y + radius) centre.y) [
            | inl past ↦ inr (λ s. let a = s.top in omega arith)
            | inr top ↦ inl (record { right = omega arith; left = omega arith; bottom = omega arith; top = omega arith })
          ]
        ]
      ]
    ]

pub square_more : (centre : Cell) (radius more : ℕ) (cell : Cell) → radius ≤ more → IsInSquare centre radius cell → IsInSquare centre more cell
square_more centre radius more cell less s =
    let a = s.right in
    let b = s.left in
    let c = s.bottom in
    let d = s.top in
    record { right = omega arith; left = omega arith; bottom = omega arith; top = omega arith }

-- ---- what the code finds

-- a compass move that was found between two cells that are apart
pub compass_found : (found : Option Move) (P : Move → Type 0) (move : Move) (from to : Cell)
    → MatchOption found (from ≡ to) (λ m. IsCompass from m to) → from ≢ to → UnwrapsOrElse found P move → IsCompass from move to
compass_found None P move from to same apart is = absurd (apart same)
compass_found (Some m) P move from to compass apart is = subst (λ k. IsCompass from k to) (sym is) compass
