use Rattle.std.proofs.Common.{arith, sym}
use Rattle.std.proofs.lemmas.List.{length-map}
use Rattle.path_core.specs.KeptEntries.{entry_of}
use Rattle.path_core.proofs.Bounds.{legal_histories_are_bounded}
use Rattle.path_core.proofs.board.Board.entries.Goals as goal

pub overflow_cast-result : goal.overflow_cast-result
overflow_cast-result c =
    let few = (legal_histories_are_bounded _ _ c.self.invariant.legal).entries in
    omega (arith, c.len.ensures, c.self.inside.entries.ok.0, length-map c.self.inside.entries.items (entry_of c.self.inside.edits.edits), few)

pub returns-clause-limit : goal.returns-clause-limit
returns-clause-limit c = rw (sym c.self.view_is) (legal_histories_are_bounded _ _ c.self.invariant.legal).entries
