-- Components of one row of cells, with their rows written out. Only tests use them.
use Rattle.std.specs.Prelude.{ℕ, [], ◌∷◌}
use Rattle.moves.specs.declared.Cell.{Cell}
use Rattle.run_pack.specs.declared.Run.{Run}
use Rattle.cell_order.specs.declared.OrderKind.TheVariants.{Rows}
use Rattle.row_store.specs.Comps.{Comp, comp_with}

-- a cell of the row
abbrev pub cell : ℕ → Cell
cell x = record { x = x; y = 0 }

-- the run that starts there and keeps the move with that number
abbrev pub run : ℕ → ℕ → Run
run start number = record { start = start; mv = number }

-- one cell: each move is in its first set, and the least one is north
abbrev pub lone : ℕ → Comp
lone x = comp_with Rows (cell x ∷ []) ((run 0 0 ∷ []) ∷ [])

-- three cells: east from the first one, west to it and then east from the second, west from the third
abbrev pub line : Comp
line = comp_with Rows (cell 0 ∷ cell 1 ∷ cell 2 ∷ []) ((run 0 2 ∷ []) ∷ (run 0 6 ∷ run 2 2 ∷ []) ∷ (run 0 6 ∷ []) ∷ [])
