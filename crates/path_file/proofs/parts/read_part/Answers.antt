use Rattle.std.proofs.Common.{length}
use Rattle.path_file.proofs.CellLemmas.{ordered_cells, ordered_size}
use Rattle.path_file.proofs.PartReading.{shaped}
use Rattle.path_file.proofs.parts.read_part.Goals as goal

pub returns-clause-ready : goal.returns-clause-ready
returns-clause-ready c =
    let cells = c.args.cells.now in
    let order = c.in_ok-ordered.ordered.items in
    record {
      cells = ordered_cells cells order c.in_ok-ordered.ensures.same c.requires;
      rows = shaped order c.in_ok-rows.rows (length cells) (ordered_size cells order c.in_ok-ordered.ensures.same c.requires) c.in_ok-rows.ensures.shaped;
    }
