use Rattle.std.proofs.Common.{sym, subst}
use Rattle.query_proto.specs.Frames.{IsRequestSpelled}
use Rattle.query_proto.proofs.Shapes.{not_counted, not_read}
use Rattle.query_proto.proofs.requests.changes_in.Goals as goal

pub returns-in_err-count : goal.returns-in_err-count
returns-in_err-count c =
    subst (IsRequestSpelled c.args.frame.now) (sym c.from_residual.ensures) (not_counted c.args.frame.now c.requires c.in_err-count.ensures.none)

pub returns-in_err-edit : goal.returns-in_err-edit
returns-in_err-edit c =
    subst (IsRequestSpelled c.args.frame.now) (sym c.from_residual-in_err-edit.ensures)
    (not_read c.args.frame.now c.requires c.in_err-edit.ensures.none)
