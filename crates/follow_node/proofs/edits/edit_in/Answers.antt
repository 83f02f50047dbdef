use Rattle.std.proofs.Common.{IfNone, sym, subst, arith}
use Rattle.follow_node.specs.Reading.{BeginsWithNoEdit}
use Rattle.follow_node.proofs.EditBytes.{none_of, none_read_of}
use Rattle.follow_node.proofs.edits.edit_in.Goals as goal

pub returns-then-bytes-count-clause-none : goal.returns-then-bytes-count-clause-none
returns-then-bytes-count-clause-none c =
    none_of c.args.bytes.now c.from-count.result (sym c.from-count.ensures) (λ some few fits. omega (arith, fits, c.if-bytes-count.true))

pub returns-in_err-read_changes-clause-none : goal.returns-in_err-read_changes-clause-none
returns-in_err-read_changes-clause-none c =
    subst (λ found. IfNone found (BeginsWithNoEdit c.args.bytes.now)) (sym c.from_residual.ensures)
    (none_read_of c.args.bytes.now c.from-count.result (sym c.from-count.ensures) c.in_err-read_changes.ensures.none)
