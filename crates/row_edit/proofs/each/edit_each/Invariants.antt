use Rattle.row_edit.proofs.Going.{AreBetween}
use Rattle.row_edit.proofs.each.edit_each.Given as goal

abbrev pub invariant-loop-edit : goal.invariant-loop-edit
invariant-loop-edit l = AreBetween l.fn.words l.fn.places l.fn.known l.edits l.edit-index l.room.words.items l.left l.room.known.items
