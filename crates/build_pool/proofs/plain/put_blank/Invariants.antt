use Rattle.std.proofs.Common.{◌≡◌, ◌*◌, ◌≤◌, length}
use Rattle.build_pool.specs.Pieces.{AreDone}
use Rattle.build_pool.proofs.plain.put_blank.Given as goal

abbrev pub invariant-loop-place : goal.invariant-loop-place
invariant-loop-place l = record {
  whole : length l.rows ≡ length l.fn.rows;
  done : AreDone l.cells l.place l.rows;
  room : l.board.width * l.board.height ≤ l.plain.room;
}
