use Rattle.std.proofs.Common.{arith}
use Rattle.build_pool.proofs.Boards.{sides_within}
use Rattle.build_pool.proofs.board.sides_of.Goals as goal

pub returns-clause-limits : goal.returns-clause-limits
returns-clause-limits c = sides_within _ _ _ _ c.loop-cell.invariant c.requires.some (omega arith) c.requires.on_map
