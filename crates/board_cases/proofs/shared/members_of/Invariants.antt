-- The passes that are left are of the board.
use Rattle.std.proofs.Common.{All}
use Rattle.path_board.specs.SharedBoards.{board_id}
use Rattle.path_board.specs.Passes.{IsPassOf}
use Rattle.board_cases.proofs.shared.members_of.Given as goal

abbrev pub invariant-loop-pass : goal.invariant-loop-pass
invariant-loop-pass l = All (λ pass. IsPassOf (board_id l.fn.board) pass) l.pass-iterator.rest.items
