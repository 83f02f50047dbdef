use Rattle.std.proofs.Common.{◌≡◌, ◌*◌, ◌≤◌, length}
use Rattle.near_rows.specs.Building.{AreDone}
use Rattle.near_rows.proofs.plain.put_blank.Given as goal

abbrev pub invariant-loop-place : goal.invariant-loop-place
invariant-loop-place l = record {
  done : AreDone l.grid l.cells l.place l.near;
  room : l.grid.width * l.grid.height ≤ l.plain.room;
  wide : length l.wide.items ≡ length l.cells;
}
