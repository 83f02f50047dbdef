use Rattle.edit_log.proofs.Cutting.{some_left}
use Rattle.edit_log.proofs.Padded.{is_padded}
use Rattle.edit_log.proofs.edit.Edit.of.Goals as goal

pub invariant_of-result : goal.invariant_of-result
invariant_of-result c = is_padded _ _ c.copy_from_slice.ensures.after (some_left _ _ c.if-is_empty.false c.is_empty.ensures)
    c.if-changes-gt-MAX_CHANGES.false
