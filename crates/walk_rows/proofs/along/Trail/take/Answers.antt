use Rattle.std.proofs.Common.{arith}
use Rattle.walk_rows.proofs.along.Trail.take.Goals as goal

pub target-self-requires-clause-column : goal.target-self-requires-clause-column
target-self-requires-clause-column c = let inside = c.requires.1.leaves.inside.column in let limit = c.width.ensures.limits.columns in omega arith

pub target-self-requires-clause-row : goal.target-self-requires-clause-row
target-self-requires-clause-row c = let inside = c.requires.1.leaves.inside.row in let limit = c.width.ensures.limits.rows in omega arith

pub target-self-requires-clause-some : goal.target-self-requires-clause-some
target-self-requires-clause-some c = (c.requires.0, c.requires.1.target)
