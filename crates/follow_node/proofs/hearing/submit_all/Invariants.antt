use Rattle.std.proofs.Common.{take}
use Rattle.follow_node.specs.Following.{followed_of}
use Rattle.follow_node.specs.Hearing.{SubmitsAll}
use Rattle.follow_node.proofs.hearing.submit_all.Given as goal

abbrev pub invariant-loop-place : goal.invariant-loop-place
invariant-loop-place l = SubmitsAll (followed_of l.fn.board) (take l.place l.fn.edits.edits) (followed_of l.board)
