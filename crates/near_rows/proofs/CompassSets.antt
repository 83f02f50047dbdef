-- The compass moves as sets: those that go one way along the columns, and one way along the rows.
use Rattle.std.proofs.Common.{◌≡◌, ◌↔◌, ℕ, ◌<◌, Bool, true, false, cond, refl, sym, ap, subst, ◌∙◌, inl, inr, arith}
use Rattle.std.specs.Int.{bit_at}
use Rattle.std.proofs.lemmas.Bool.{cases_lt}
use Rattle.moves.specs.declared.Cell.{Cell}
use Rattle.moves.specs.declared.Move.{Move}
use Rattle.moves.specs.declared.Move.TheVariants.{N, NE, E, SE, S, SW, W, NW}
use Rattle.moves.specs.Moves.{number_of}
use Rattle.moves.specs.MoveSets.{Has}
use Rattle.moves.proofs.MovesInSets.{Has-bit, Has-from_bit}
use Rattle.near_rows.specs.Compass.{IsCompass}
use Rattle.near_rows.proofs.Compasses.{Order, below, level, above, Stands, one_order, column_order, row_order, columns_stand, rows_stand, compass_stands}

abbrev is_order : Order → Order → Bool
is_order below below = true
is_order level level = true
is_order above above = true
is_order _ _ = false

same_order : (a b : Order) → is_order a b ≡ true → a ≡ b
same_order below below h = refl
same_order level level h = refl
same_order above above h = refl
same_order below level h = absurd (cc)
same_order below above h = absurd (cc)
same_order level below h = absurd (cc)
same_order level above h = absurd (cc)
same_order above below h = absurd (cc)
same_order above level h = absurd (cc)

order_itself : (a : Order) → is_order a a ≡ true
order_itself below = refl
order_itself level = refl
order_itself above = refl

-- the moves whose columns stand so, and those whose rows do
abbrev columns_set : Order → ℕ
columns_set below = 224
columns_set level = 17
columns_set above = 14

abbrev rows_set : Order → ℕ
rows_set below = 131
rows_set level = 68
rows_set above = 56

columns_bit : (o : Order) (m : Move) → bit_at (columns_set o) (number_of m) ≡ cond (is_order (column_order m) o) 1 0
columns_bit below N = refl
columns_bit below NE = refl
columns_bit below E = refl
columns_bit below SE = refl
columns_bit below S = refl
columns_bit below SW = refl
columns_bit below W = refl
columns_bit below NW = refl
columns_bit level N = refl
columns_bit level NE = refl
columns_bit level E = refl
columns_bit level SE = refl
columns_bit level S = refl
columns_bit level SW = refl
columns_bit level W = refl
columns_bit level NW = refl
columns_bit above N = refl
columns_bit above NE = refl
columns_bit above E = refl
columns_bit above SE = refl
columns_bit above S = refl
columns_bit above SW = refl
columns_bit above W = refl
columns_bit above NW = refl

rows_bit : (o : Order) (m : Move) → bit_at (rows_set o) (number_of m) ≡ cond (is_order (row_order m) o) 1 0
rows_bit below N = refl
rows_bit below NE = refl
rows_bit below E = refl
rows_bit below SE = refl
rows_bit below S = refl
rows_bit below SW = refl
rows_bit below W = refl
rows_bit below NW = refl
rows_bit level N = refl
rows_bit level NE = refl
rows_bit level E = refl
rows_bit level SE = refl
rows_bit level S = refl
rows_bit level SW = refl
rows_bit level W = refl
rows_bit level NW = refl
rows_bit above N = refl
rows_bit above NE = refl
rows_bit above E = refl
rows_bit above SE = refl
rows_bit above S = refl
rows_bit above SW = refl
rows_bit above W = refl
rows_bit above NW = refl

-- a set that has a move exactly where the orders are one
module _ (set : ℕ) (m : Move) (p o : Order) (bit : bit_at set (number_of m) ≡ cond (is_order p o) 1 0) where
  order_from : Has set m → p ≡ o
  order_from has = same_order p o (go (is_order p o) (sym bit ∙ Has-bit set m has))
    where
      go : (b : Bool) → ◌≡◌ {A = ℕ} (cond b 1 0) 1 → b ≡ true
      go true e = refl
      go false e = absurd (omega arith)

  has_from : p ≡ o → Has set m
  has_from same =
      Has-from_bit set m (bit ∙ ap (λ b. cond {A = ℕ} b 1 0) (subst (λ q. is_order p q ≡ true) same (order_itself p)))

-- how two numbers stand to one another, and the set that is chosen by that
record IsChosen (sets : Order → ℕ) (a b set : ℕ) : Type 0 where
  pub order : Order
  pub stands : Stands order a b
  pub is : set ≡ sets order

chosen_set : (sets : Order → ℕ) (a b set : ℕ) → (a < b → set ≡ sets above) → (a ≡ b → set ≡ sets level) → (b < a → set ≡ sets below) → IsChosen sets a b set
chosen_set sets a b set less same more =
    elim (cases_lt a b) [
      | inl before ↦ record { order = above; stands = before; is = less before }
      | inr after ↦ elim (cases_lt b a) [
        | inl behind ↦ record { order = below; stands = behind; is = more behind }
        | inr there ↦ let one : a ≡ b = omega arith in record { order = level; stands = sym one; is = same one }
      ]
    ]

-- the moves that both sets have are the compass moves
pub compass_shared : (from to : Cell) (columns rows both : ℕ)
    → (from.x < to.x → columns ≡ 14) → (from.x ≡ to.x → columns ≡ 17) → (to.x < from.x → columns ≡ 224)
    → (from.y < to.y → rows ≡ 56) → (from.y ≡ to.y → rows ≡ 68) → (to.y < from.y → rows ≡ 131)
    → (move : Move) → (Has both move ↔ (Has columns move × Has rows move)) → Has both move ↔ IsCompass from move to
compass_shared from to columns rows both east upright west south flat north move shared = (
  λ has.
      (let each = shared.0 has in
      let column = order_from (columns_set across.order) move (column_order move) across.order (columns_bit across.order move) (subst (λ s. Has s move) across.is each.0) in
      let row = order_from (rows_set along.order) move (row_order move) along.order (rows_bit along.order move) (subst (λ s. Has s move) along.is each.1) in
      compass_stands from move to (subst (λ o. Stands o from.x to.x) (sym column) across.stands) (subst (λ o. Stands o from.y to.y) (sym row) along.stands)),
  λ compass.
      (let column = one_order (column_order move) across.order from.x to.x (columns_stand from move to compass) across.stands in
      let row = one_order (row_order move) along.order from.y to.y (rows_stand from move to compass) along.stands in
      shared.1 (
        subst (λ s. Has s move) (sym across.is) (has_from (columns_set across.order) move (column_order move) across.order (columns_bit across.order move) column),
        subst (λ s. Has s move) (sym along.is) (has_from (rows_set along.order) move (row_order move) along.order (rows_bit along.order move) row),
      )),
)
  where
    across : IsChosen columns_set from.x to.x columns
    across = chosen_set columns_set from.x to.x columns east upright west

    along : IsChosen rows_set from.y to.y rows
    along = chosen_set rows_set from.y to.y rows south flat north

-- the same, where the cell's column and row stand in lanes
pub compass_lane : (from to : Cell) (x y columns rows both : ℕ) → x ≡ to.x → y ≡ to.y
    → (from.x < x → columns ≡ 14) → (from.x ≡ x → columns ≡ 17) → (x < from.x → columns ≡ 224)
    → (from.y < y → rows ≡ 56) → (from.y ≡ y → rows ≡ 68) → (y < from.y → rows ≡ 131)
    → (move : Move) → (Has both move ↔ (Has columns move × Has rows move)) → Has both move ↔ IsCompass from move to
compass_lane from to x y columns rows both column row east upright west south flat north =
    compass_shared from to columns rows both (λ h. east (omega arith)) (λ h. upright (omega arith)) (λ h. west (omega arith))
    (λ h. south (omega arith)) (λ h. flat (omega arith)) (λ h. north (omega arith))
