use Rattle.std.proofs.Common.{◌≡◌}
use Rattle.moves.specs.Neighbours.{AreNeighbours}
use Rattle.grid_search.specs.Keys.{key_at}
use Rattle.grid_search.specs.Searches.{keys_of}
use Rattle.walk_rows.proofs.Finding.{IsAloneSoFar}
use Rattle.walk_rows.proofs.forced.forced_move.Given as goal

abbrev pub invariant-loop-by : goal.invariant-loop-by
invariant-loop-by l = record {
  near : AreNeighbours l.grid l.fn.from l.by-items;
  wide : l.width ≡ l.grid.width;
  keys : l.keys ≡ keys_of l.search;
  key : l.key ≡ key_at l.width l.keys l.fn.from;
  alone : IsAloneSoFar l.width l.keys l.key l.by-items l.by-index l.alone;
}
