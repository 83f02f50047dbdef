use Rattle.std.proofs.Common.{IfNone, sym, subst}
use Rattle.follow_node.specs.Reading.{LacksChanges}
use Rattle.follow_node.proofs.EditBytes.{read_stuck}
use Rattle.follow_node.proofs.edits.read_changes.Goals as goal

pub returns-in_err-room-clause-none : goal.returns-in_err-room-clause-none
returns-in_err-room-clause-none c =
    subst (λ found. IfNone found (LacksChanges c.args.bytes.now c.args.count)) (sym c.from_residual.ensures)
    (read_stuck c.args.bytes.now c.loop-place.place c.args.count c.loop-place-test.true c.in_err-room.ensures.none)
