use Rattle.std.proofs.Common.{arith}
use Rattle.root_cost.proofs.Micro.{IsMicro-root}
use Rattle.root_cost.proofs.Cost.micro.Goals as goal

pub returns : goal.returns
returns c =
    let least = rw c.from-diagonal.ensures at c.isqrt-root.ensures.square_le in
    let most = rw c.from-diagonal.ensures at c.isqrt-root.ensures.next_square_gt in
    IsMicro-root c.args.self c.isqrt-root.result (omega (arith, least)) (omega (arith, most)) c.from.result c.from.ensures
