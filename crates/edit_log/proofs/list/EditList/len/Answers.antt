use Rattle.std.proofs.Common.{◌∙◌, ap, length, sym}
use Rattle.edit_log.proofs.Cutting.{edits_count}
use Rattle.edit_log.proofs.list.EditList.len.Goals as goal

pub returns : goal.returns
returns c = c.len.ensures ∙ c.self.inside.ends.ok.0 ∙ sym (edits_count _ _ _) ∙ ap (λ l. length l.edits) c.self.view_is
