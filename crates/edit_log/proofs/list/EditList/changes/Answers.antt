use Rattle.std.proofs.Common.{◌∙◌, ap, arith, sym}
use Rattle.edit_log.proofs.Cutting.{all_of, edits_all}
use Rattle.edit_log.proofs.list.EditList.changes.Goals as goal

pub returns : goal.returns
returns c = c.as_slice.ensures.value ∙ sym (edits_all _ _ _ _ (omega arith) c.self.invariant.cut) ∙ ap (λ l. all_of l.edits) c.self.view_is
