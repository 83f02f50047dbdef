use Rattle.std.proofs.Common.{arith}
use Rattle.live_search.proofs.Rounds.{round_more}
use Rattle.live_search.proofs.expanding.look_round.Goals as goal

pub loop-number-preserved : goal.loop-number-preserved
loop-number-preserved c =
    let turn = c.loop-number-test.true in
    rw c.from.ensures
    (round_more c.args.live.now c.args.seek c.args.cell c.loop-number.near c.loop-number.number c.place_behind.result c.move_of-by.result c.loop-number.invariant.0 (omega arith)
    c.loop-number.invariant.1 c.move_of-by.ensures c.place_behind.ensures)
