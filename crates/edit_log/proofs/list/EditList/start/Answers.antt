use Rattle.std.proofs.Common.{◌∙◌, ap, arith, length, sym}
use Rattle.edit_log.proofs.Cutting.{edits_count, end_is}
use Rattle.edit_log.proofs.list.EditList.start.Goals as goal

pub index-requires : goal.index-requires
index-requires c =
    let count = sym (edits_count 0 c.self.inside.ends.items c.self.inside.changes.items) ∙ ap (λ l. length l.edits) c.self.view_is in
    omega (arith, count, c.self.inside.ends.ok.0, c.in-Some.ensures, c.requires)

pub returns-in-Some : goal.returns-in-Some
returns-in-Some c =
    let count = sym (edits_count 0 c.self.inside.ends.items c.self.inside.changes.items) ∙ ap (λ l. length l.edits) c.self.view_is in
    c.index.ensures
    ∙ end_is _ _ _ _ _ _ (ap (λ l. l.edits) c.self.view_is) c.self.invariant.cut (omega (arith, count, c.in-Some.ensures, c.requires))
    (omega (arith, c.in-Some.ensures))
