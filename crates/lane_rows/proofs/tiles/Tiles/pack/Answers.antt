use Rattle.std.proofs.Common.{◌≤◌, length, ◌∙◌, arith}
use Rattle.std.proofs.lemmas.List.{with_items_is}
use Rattle.lane_rows.proofs.PackedRows.{completed, have_rows}
use Rattle.lane_rows.proofs.tiles.Tiles.pack.Goals as goal

pub returns-clause-rows : goal.returns-clause-rows
returns-clause-rows c =
    let inside = rw (← c.self.view_is) at c.requires.sources in
    let items = c.deref.ensures.value ∙ with_items_is c.self.inside.sets c.fill_own.new.sets (omega (arith, c.fill_own.auto.sets, c.as_mut_slice.ensures.len)) in
    let room : c.self.inside.count ≤ length c.fill_own.new.sets = let rows = c.self.invariant.set_rows in omega (arith, c.fill_own.auto.sets, c.as_mut_slice.ensures.len, rows) in
    let packed = rw items at c.in_ok-pack_lanes.ensures.packed in
    let bytes = rw items at c.in_ok-pack_lanes.ensures.bytes in
    let others = rw c.as_mut_slice.ensures.value at c.fill_own.ensures.others in
    rw (← c.self.view_is)
    (have_rows _ c.fill_own.new.sets room c.fill_own.ensures.own others inside _ packed bytes)

pub returns-clause-completed : goal.returns-clause-completed
returns-clause-completed c =
    let inside = rw (← c.self.view_is) at c.requires.sources in
    let items = with_items_is c.self.inside.sets c.fill_own.new.sets (omega (arith, c.fill_own.auto.sets, c.as_mut_slice.ensures.len)) in
    let room : c.self.inside.count ≤ length c.fill_own.new.sets = let rows = c.self.invariant.set_rows in omega (arith, c.fill_own.auto.sets, c.as_mut_slice.ensures.len, rows) in
    let others = rw c.as_mut_slice.ensures.value at c.fill_own.ensures.others in
    rw (← c.self.view_is, items)
    (completed _ c.fill_own.new.sets room c.fill_own.ensures.own others inside)

pub returns-in_err-pack_lanes-clause-completed : goal.returns-in_err-pack_lanes-clause-completed
returns-in_err-pack_lanes-clause-completed c =
    let inside = rw (← c.self.view_is) at c.requires.sources in
    let items = with_items_is c.self.inside.sets c.fill_own.new.sets (omega (arith, c.fill_own.auto.sets, c.as_mut_slice.ensures.len)) in
    let room : c.self.inside.count ≤ length c.fill_own.new.sets = let rows = c.self.invariant.set_rows in omega (arith, c.fill_own.auto.sets, c.as_mut_slice.ensures.len, rows) in
    let others = rw c.as_mut_slice.ensures.value at c.fill_own.ensures.others in
    rw (← c.self.view_is, items)
    (completed _ c.fill_own.new.sets room c.fill_own.ensures.own others inside)
