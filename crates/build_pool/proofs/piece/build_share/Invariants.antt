use Rattle.std.proofs.Common.{◌≡◌, length}
use Rattle.build_pool.proofs.piece.build_share.Given as goal

abbrev pub invariant-loop-first : goal.invariant-loop-first
invariant-loop-first g l = record {
  count : l.bench.tiles.count ≡ length l.near;
  marks : length l.bench.wanted.items ≡ length l.near;
  part : g.H.Harvest.gathered l.cells l.harvest;
}
