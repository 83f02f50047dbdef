use Rattle.std.proofs.Common.{◌+◌, ◌∙◌, ap, subst, sym}
use Rattle.root_cost.specs.Costs.{plus_step}
use Rattle.query_proto.specs.Frames.{IsSpelledCost}
use Rattle.query_proto.proofs.SpelledMoves.{IsSpelled, spelled_more, spelled_stuck}
use Rattle.query_proto.proofs.replies.spelled_cost.Goals as goal

pub returns-in_err-of : goal.returns-in_err-of
returns-in_err-of c =
    subst (IsSpelledCost c.args.bytes.now) (sym c.from_residual.ensures)
    (spelled_stuck c.args.bytes.now c.loop-byte.byte-index _ c.loop-byte-test.true c.in_err-of.ensures)

pub loop-byte-preserved : goal.loop-byte-preserved
loop-byte-preserved c =
    subst (λ cost. IsSpelled c.args.bytes.now (c.loop-byte.byte-index + 1) cost)
    (sym (c.plus-cost.ensures ∙ ap (plus_step c.loop-byte.cost) c.is_diagonal.ensures))
    (spelled_more c.args.bytes.now c.loop-byte.byte-index _ c.loop-byte.cost c.in_ok-of.field-0 c.loop-byte.invariant c.loop-byte-test.true c.in_ok-of.ensures)
