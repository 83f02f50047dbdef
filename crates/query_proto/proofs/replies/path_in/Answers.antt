use Rattle.std.proofs.Common.{◌≤◌, length, arith}
use Rattle.query_proto.proofs.SpelledMoves.{not_straight, not_diagonal}
use Rattle.query_proto.proofs.replies.path_in.Goals as goal

pub returns-then-cost-straight : goal.returns-then-cost-straight
returns-then-cost-straight c =
    let read = c.number_at-straight in
    let long : 13 ≤ length c.args.frame.now = omega (arith, c.if-frame-lt-PATH_HEAD.false) in
    not_straight c.args.frame.now c.in_ok-cost.cost read.result c.requires.kind long c.in_ok-cost.ensures
    read.type_inv read.ensures c.if-cost-straight.true

pub returns-then-cost-diagonal : goal.returns-then-cost-diagonal
returns-then-cost-diagonal c =
    let read = c.number_at-diagonal in
    let long : 13 ≤ length c.args.frame.now = omega (arith, c.if-frame-lt-PATH_HEAD.false) in
    not_diagonal c.args.frame.now c.in_ok-cost.cost read.result c.requires.kind long c.in_ok-cost.ensures
    read.type_inv read.ensures c.if-cost-diagonal.true
