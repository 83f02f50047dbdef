use Rattle.std.proofs.Common.{sym, ◌∙◌}
use Rattle.path_image.proofs.Targets.{off_north}
use Rattle.path_image.proofs.walking.leads_off_north.Goals as goal

pub returns : goal.returns
returns c = off_north c.args.at c.args.by (sym c.is_north.ensures ∙ c.if-not-is_north.false)
