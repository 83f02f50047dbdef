use Rattle.std.proofs.Common.{IfNone, drop, sym, subst, arith}
use Rattle.query_proto.specs.Frames.{SpellsNoChanges}
use Rattle.query_proto.proofs.Several.{read_stuck}
use Rattle.query_proto.proofs.changes.read_changes.Goals as goal

pub returns-in_err-changes-clause-none : goal.returns-in_err-changes-clause-none
returns-in_err-changes-clause-none c =
    subst (λ found. IfNone found (SpellsNoChanges (drop 2 c.args.frame.now))) (sym c.from_residual.ensures)
    (read_stuck c.args.frame.now c.loop-place.place (omega (arith, c.requires, c.loop-place.invariant.1, c.loop-place-test.true)) c.in_err-changes.ensures.none)
