-- The cells in which two maps of the same sides differ, found row by row.
use Rattle.std.proofs.Common.{◌≡◌, ℕ, ◌+◌, ◌≤◌, ◌⊎◌, List, [], ◌∷◌, ◌++◌, sym, subst, inl, inr, arith}
use Rattle.std.specs.List.{Contains}
use Rattle.std.proofs.lemmas.Bool.{cases_lt}
use Rattle.std.proofs.lemmas.List.Elements.{Contains-push, Contains-append_left}
use Rattle.moves.specs.declared.Cell.{Cell}
use Rattle.moves.specs.Maps.{Map, IsInside, ComesBefore, terrain_of}
use Rattle.components.specs.Edits.{AreChanged}
use Rattle.version_build.specs.Edited.{AreChangedBefore}

pub changed_none : (old new : Map) (changed : List Cell) → AreChangedBefore old new 0 0 changed
changed_none old new changed = λ cell before inside.
    elim before [
      | inl above ↦ absurd (omega arith)
      | inr here ↦ absurd (let left = here.1 in omega arith)
    ]

-- a cell before the next one is before this one, or it is this one
before_next : (column row : ℕ) (cell : Cell) → ComesBefore cell (record { x = column + 1; y = row }) → ComesBefore cell (record { x = column; y = row }) ⊎ (record { x = column; y = row } ≡ cell)
before_next column row cell before =
    elim before [
      | inl above ↦ inl (inl above)
      | inr here ↦
          elim (cases_lt cell.x column) [
            | inl left ↦ inl (inr (here.0, left))
            | inr at ↦
                let x : column ≡ cell.x = (let less = here.1 in omega arith) in
                inr (λ i. record { x = x i; y = sym here.0 i })
          ]
    ]

module _ (old new : Map) (column row : ℕ) (changed : List Cell) (p : AreChangedBefore old new column row changed) where
  pub changed_pushed : AreChangedBefore old new (column + 1) row (changed ++ record { x = column; y = row } ∷ [])
  changed_pushed cell before inside =
      elim (before_next column row cell before) [
        | inl earlier ↦
            elim (p cell earlier inside) [
              | inl has ↦ inl (Contains-append_left changed (record { x = column; y = row } ∷ []) cell has)
              | inr same ↦ inr same
            ]
        | inr is ↦ inl (subst (Contains (changed ++ record { x = column; y = row } ∷ [])) is (Contains-push changed (record { x = column; y = row })))
      ]

  pub changed_same : (IsInside old (record { x = column; y = row }) → terrain_of new (record { x = column; y = row }) ≡ terrain_of old (record { x = column; y = row }))
      → AreChangedBefore old new (column + 1) row changed
  changed_same same cell before inside =
      elim (before_next column row cell before) [
        | inl earlier ↦ p cell earlier inside
        | inr is ↦ inr (subst (λ c. IsInside old c → terrain_of new c ≡ terrain_of old c) is same inside)
      ]

  -- the row ends
  pub changed_row : old.width ≤ column → AreChangedBefore old new 0 (row + 1) changed
  changed_row end cell before inside =
      elim before [
        | inl below ↦
            elim (cases_lt cell.y row) [
              | inl above ↦ p cell (inl above) inside
              | inr here ↦
                  let row_is : cell.y ≡ row = omega arith in
                  p cell (inr (row_is, let column_in = inside.column in omega arith)) inside
            ]
        | inr none ↦ absurd (let left = none.1 in omega arith)
      ]

-- the last row ends
pub changed_all : (old new : Map) (row : ℕ) (changed : List Cell) → old.height ≤ row → AreChangedBefore old new 0 row changed → AreChanged old new changed
changed_all old new row changed end p cell inside = p cell (inl (let row_in = inside.row in omega arith)) inside
