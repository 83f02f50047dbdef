use Rattle.std.proofs.Common.{subst}
use Rattle.pathdb.specs.Calls.{cell_of}
use Rattle.pathdb.specs.Live.{SaysLivePath, living}
use Rattle.pathdb.proofs.live.pathdb_path_live.Goals as goal

pub returns-clause-told : goal.returns-clause-told
returns-clause-told c =
    let live = living c.args.words.now c.args.blocked.now in
    record {
      status = c.path_live.result;
      is = c.number.ensures.number;
      holds = subst (λ at. SaysLivePath live at (cell_of c.args.goal) c.args.room.now c.path_live.new.room c.path_live.new.count c.path_live.result) c.cell.ensures
          (subst (λ to. SaysLivePath live c.cell.result to c.args.room.now c.path_live.new.room c.path_live.new.count c.path_live.result) c.cell-2.ensures
          c.path_live.ensures.told);
    }
