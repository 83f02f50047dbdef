use Rattle.std.proofs.Common.{◌≡◌, ℕ, ◌<◌, All, length}
use Rattle.moves.specs.declared.Move.{Move}
use Rattle.moves.specs.FirstSetLists.{cell_of}
use Rattle.lane_rows.specs.Tables.{IsEdge, edges_of, end_of}
use Rattle.lane_rows.proofs.near.Near.of.Given as goal

abbrev pub invariant-loop-cell : goal.invariant-loop-cell
invariant-loop-cell l = record {
  long : length l.table.items ≡ l.cell-index;
  eight : All (λ edges. length edges ≡ 8) l.table.items;
  each : (place : ℕ) (move : Move) → place < l.cell-index → IsEdge l.cells (cell_of l.cells place) move (end_of (edges_of l.table.items place) move);
}
