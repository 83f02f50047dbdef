use Rattle.std.proofs.Common.{◌∙◌, ap}
use Rattle.edit_log.proofs.EditedMaps.{all_inside, edits_in_one}
use Rattle.edit_log.specs.Edits.{edited}
use Rattle.edit_log.proofs.list.apply.Goals as goal

pub make-requires : goal.make-requires
make-requires c = record { inside = rw c.changes.ensures (all_inside _ _ c.requires.inside) }

pub returns : goal.returns
returns c = c.make.ensures ∙ ap (edited c.args.grid.now) c.changes.ensures ∙ edits_in_one c.args.grid.now c.args.edits.now.edits
