use Rattle.std.proofs.Common.{◌∙◌, ◌==◌, ap, length, sym}
use Rattle.edit_log.proofs.Cutting.{edits_count}
use Rattle.edit_log.proofs.list.EditList.is_empty.Goals as goal

pub returns : goal.returns
returns c = c.is_empty.ensures
    ∙ ap (λ n. n == 0) (c.self.inside.ends.ok.0 ∙ sym (edits_count _ _ _) ∙ ap (λ l. length l.edits) c.self.view_is)
