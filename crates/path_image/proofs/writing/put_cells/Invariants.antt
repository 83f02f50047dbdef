use Rattle.std.proofs.Common.{◌≤◌, map, take}
use Rattle.path_image.specs.Images.{cell_word}
use Rattle.path_image.specs.Writing.{Puts}
use Rattle.path_image.proofs.writing.put_cells.Given as goal

abbrev pub invariant-loop-cell : goal.invariant-loop-cell
invariant-loop-cell g l = record {
  put : Puts (g.S.Sink.bytes l.fn.sink) l.fn.piece (g.S.Sink.bytes l.sink) l.piece (map cell_word (take l.cell-index l.comp.cells));
  later : g.S.Sink.faults l.fn.sink ≤ g.S.Sink.faults l.sink;
}
