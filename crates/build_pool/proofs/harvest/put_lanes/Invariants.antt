use Rattle.std.proofs.Common.{◌≡◌, length}
use Rattle.build_pool.specs.Pieces.{ArePartly}
use Rattle.build_pool.proofs.harvest.put_lanes.Given as goal

abbrev pub invariant-loop-lane : goal.invariant-loop-lane
invariant-loop-lane l = record {
  whole : length l.rows ≡ length l.fn.rows;
  part : ArePartly l.cells l.rows;
}
