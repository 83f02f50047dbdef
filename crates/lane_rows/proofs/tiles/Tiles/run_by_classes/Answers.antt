use Rattle.std.proofs.Common.{sym, ◌∙◌, arith}
use Rattle.std.proofs.lemmas.List.{with_items_is}
use Rattle.lane_rows.proofs.Solving.{tile_solved}
use Rattle.lane_rows.proofs.tiles.Tiles.run_by_classes.Goals as goal

pub returns-clause-solved : goal.returns-clause-solved
returns-clause-solved c = λ all.
    tile_solved _ _ _ _ _ _ _ _ _ _ c.table.ensures.table (with_items_is c.self-2.inside.keys c.solve.new.keys (omega (arith, c.solve.auto.keys, c.as_mut_slice.ensures.len)))
    (with_items_is c.self-2.inside.sets c.solve.new.sets (omega (arith, c.solve.auto.sets, c.as_mut_slice-2.ensures.len))) c.words_of.ensures (c.solve.ensures.solved all)
    ((rw (← c.self.view_is) at c.requires.near) ∙ sym (rw (← c.self-2.view_is) at c.refer.ensures.count))
