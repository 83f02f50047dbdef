use Rattle.std.proofs.Common.{◌≡◌, ℕ, ◌<◌, length, get_or}
use Rattle.moves.specs.FirstSetLists.{cell_of}
use Rattle.near_rows.proofs.lanes.sources_of.Given as goal

abbrev pub invariant-loop-lane : goal.invariant-loop-lane
invariant-loop-lane l = record {
  columns_whole : length l.columns ≡ 16;
  rows_whole : length l.rows ≡ 16;
  columns : (at : ℕ) → at < l.lane → get_or l.columns at 0 ≡ (cell_of l.cells (get_or l.tiles.sources at 0)).x;
  rows : (at : ℕ) → at < l.lane → get_or l.rows at 0 ≡ (cell_of l.cells (get_or l.tiles.sources at 0)).y;
}
