use Rattle.std.proofs.Common.{◌∙◌, ap}
use Rattle.edit_log.proofs.Cutting.{part_is, sized}
use Rattle.edit_log.proofs.list.EditList.changes_at.Goals as goal

pub part-requires-clause-rises : goal.part-requires-clause-rises
part-requires-clause-rises c = (part_is _ _ c.args.place _ _ c.changes.ensures c.requires c.start.ensures c.start-2.ensures).rises

pub part-requires-clause-within : goal.part-requires-clause-within
part-requires-clause-within c = (part_is _ _ c.args.place _ _ c.changes.ensures c.requires c.start.ensures c.start-2.ensures).within

pub returns-clause-changes : goal.returns-clause-changes
returns-clause-changes c =
    c.part.ensures ∙ (part_is _ _ c.args.place _ _ c.changes.ensures c.requires c.start.ensures c.start-2.ensures).is

pub returns-clause-some : goal.returns-clause-some
returns-clause-some c =
    rw (c.part.ensures, (part_is _ _ c.args.place _ _ c.changes.ensures c.requires c.start.ensures c.start-2.ensures).is)
    ((sized _ _ _ _ (ap (λ l. l.edits) c.self.view_is) c.self.invariant.cut c.requires).some)

pub returns-clause-few : goal.returns-clause-few
returns-clause-few c =
    rw (c.part.ensures, (part_is _ _ c.args.place _ _ c.changes.ensures c.requires c.start.ensures c.start-2.ensures).is)
    ((sized _ _ _ _ (ap (λ l. l.edits) c.self.view_is) c.self.invariant.cut c.requires).few)
