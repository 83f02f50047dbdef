use Rattle.std.proofs.Common.{◌≤◌, length, arith}
use Rattle.std.proofs.lemmas.List.{with_items_is}
use Rattle.lane_rows.proofs.PackedRows.{completed}
use Rattle.lane_rows.proofs.tiles.Tiles.complete.Goals as goal

pub returns-clause-completed : goal.returns-clause-completed
returns-clause-completed c =
    let inside = rw (← c.self.view_is) at c.requires in
    let items = with_items_is c.self.inside.sets c.fill_own.new.sets (omega (arith, c.fill_own.auto.sets, c.as_mut_slice.ensures.len)) in
    let room : c.self.inside.count ≤ length c.fill_own.new.sets = let rows = c.self.invariant.set_rows in omega (arith, c.fill_own.auto.sets, c.as_mut_slice.ensures.len, rows) in
    let others = rw c.as_mut_slice.ensures.value at c.fill_own.ensures.others in
    rw (← c.self.view_is, items)
    (completed _ c.fill_own.new.sets room c.fill_own.ensures.own others inside)
