use Rattle.std.proofs.Common.{arith}
use Rattle.std.proofs.lemmas.List.{with_items_is}
use Rattle.lane_rows.proofs.Solving.{tile_solved}
use Rattle.lane_rows.proofs.tiles.Tiles.run_without.Goals as goal

pub returns-clause-solved : goal.returns-clause-solved
returns-clause-solved c = λ all.
    tile_solved _ _ _ _ _ _ _ _ _ _ c.table-2.ensures.table (with_items_is c.self.inside.keys c.solve.new.keys (omega (arith, c.solve.auto.keys, c.as_mut_slice-2.ensures.len)))
    (with_items_is c.self.inside.sets c.solve.new.sets (omega (arith, c.solve.auto.sets, c.as_mut_slice-3.ensures.len))) c.lanes_of.ensures (c.solve.ensures all) (rw (← c.self.view_is) at c.requires.near)
