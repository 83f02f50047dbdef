-- Places of cells in a list that goes row by row.
use Rattle.std.proofs.Common.{ℕ, zero, suc, ◌*◌, ◌<◌, arith}
use Rattle.std.proofs.lemmas.Nat.{div_below, mod_below}
use Rattle.moves.specs.Maps.{Map, IsInside, cell_at}

some_factor : (a b n : ℕ) → n < a * b → 0 < a
some_factor zero b n h = absurd (omega arith)
some_factor (suc a) b n h = omega arith

pub cell_inside : (m : Map) (place : ℕ) → place < m.width * m.height → IsInside m (cell_at m.width place)
cell_inside m place h =
    let some : 0 < m.width = some_factor m.width m.height place h in
    record { column = mod_below place m.width some; row = div_below place m.width m.height some (omega arith) }
