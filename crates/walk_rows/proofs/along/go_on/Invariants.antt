use Rattle.std.proofs.Common.{◌≤◌, length}
use Rattle.walk_rows.specs.Walks.{IsUnderWay}
use Rattle.walk_rows.proofs.along.go_on.Given as goal

abbrev pub invariant-loop : goal.invariant-loop
invariant-loop l = record {
  way : IsUnderWay l.grid l.route l.trail.at l.trail.moves.items;
  long : length l.fn.trail.moves.items ≤ length l.trail.moves.items;
}
