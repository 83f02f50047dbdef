use Rattle.std.proofs.Common.{◌*◌, ◌≤◌, length}
use Rattle.walk_rows.specs.Walks.{IsReady, IsUnderWay}
use Rattle.walk_rows.proofs.along.walk_among.Given as goal

abbrev pub invariant-loop : goal.invariant-loop
invariant-loop l = record {
  way : IsUnderWay l.grid l.route l.trail.at l.trail.moves.items;
  ready : IsReady l.cells l.bench;
  room : l.grid.width * l.grid.height ≤ l.bench.plain.room;
  long : l.counter ≤ length l.trail.moves.items;
}
