use Rattle.std.proofs.Common.{◌≡◌, suc, ◌-◌, arith}
use Rattle.live_search.proofs.Stepwise.{back_all, back_more}
use Rattle.live_search.proofs.noting.know_all.Goals as goal

pub loop-left-preserved : goal.loop-left-preserved
loop-left-preserved c =
    let some = c.loop-left-test.true in
    let one : c.loop-left.left ≡ suc (c.loop-left.left - 1) = omega arith in (
      c.know_one-next.ensures.room,
      back_more c.args.seek c.args.state.now c.loop-left.state c.know_one-next.new.state c.args.followed c.loop-left.left (c.loop-left.left - 1) c.loop-left.next
          c.know_one-next.result c.loop-left.invariant.1 one c.know_one-next.ensures.steps,
    )

pub returns-clause-knows : goal.returns-clause-knows
returns-clause-knows c =
    let done = c.loop-left-test.false in
    back_all c.args.seek c.args.state.now c.loop-left.state c.args.followed c.loop-left.left c.loop-left.next c.loop-left.invariant.1 (omega arith)
