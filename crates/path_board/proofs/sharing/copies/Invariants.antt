use Rattle.std.specs.Arc.{arc_value}
use Rattle.path_board.specs.Dealing.{AreCopies}
use Rattle.path_board.proofs.sharing.copies.Given as goal

abbrev pub invariant-loop-made : goal.invariant-loop-made
invariant-loop-made l = AreCopies arc_value l.fn.board l.made l.all.items
