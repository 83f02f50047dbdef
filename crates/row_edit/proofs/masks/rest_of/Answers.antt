use Rattle.std.proofs.Common.{rules, ◌<◌, ◌^◌}
use Rattle.row_edit.proofs.Bits.{LeavesRest-not}
use Rattle.row_edit.proofs.masks.rest_of.Goals as goal

pub returns : goal.returns
returns c =
    let byte : c.args.set < 2 ^ 8 = search rules in
    let byte' : c.args.other < 2 ^ 8 = search rules in
    LeavesRest-not c.args.set c.args.other byte byte'
