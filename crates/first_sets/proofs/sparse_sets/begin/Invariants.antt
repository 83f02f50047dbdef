-- The source's neighbours so far have the moves that lead to them.
use Rattle.std.proofs.Common.{◌≡◌}
use Rattle.moves.specs.Neighbours.{AreNeighbours}
use Rattle.first_sets.proofs.Beginning.{IsBegun}
use Rattle.first_sets.proofs.sparse_sets.begin.Given as goal

abbrev pub invariant-loop-by : goal.invariant-loop-by
invariant-loop-by l = record {
  near : AreNeighbours l.grid l.source l.by-items;
  wide : l.width ≡ l.grid.width;
  begun : IsBegun l.grid l.source l.search l.by-items l.by-index l.sets;
}
